-- Skippable commands of a page, passed over.
use Rattle.std.proofs.Common.{◌≡◌, ℕ, ◌≤◌, true, false, List, length, drop, refl, sym, subst, arith, None}
use Rattle.std.specs.Prelude.{slice_index, IsTrue}
use Rattle.dvi_commands.specs.Skippable.{IsSkippableTo, is_skippable}
use Rattle.dvi_commands.specs.Spelling.{DviCommand, Bop, Eop, Special, Define, Pre, Post, PostPost}
use Rattle.dvi_commands.specs.Refusal.{may_stand}
use Rattle.dvi_commands.specs.declared.command.Context.{Context}
use Rattle.dvi_commands.specs.declared.command.Context.TheVariants as context
use Rattle.page_index.specs.Faults.{is_postpost_at}
use Rattle.page_index.specs.Fonts.{Fonts}
use Rattle.page_index.specs.Judged.{postpost_fault}
use Rattle.page_index.specs.Walked.{ArePassed, IsReadTo, fault_by, fonts_after, pages_after, progress_after}
use Rattle.page_index.specs.declared.preamble.Scaled.{Scaled}
use Rattle.page_index.specs.declared.progress.Progress.{Progress}
use Rattle.page_index.specs.declared.progress.PageSpan.{PageSpan}
use Rattle.page_index.proofs.Steps.{read_as, reads_more}

-- nothing is wrong with a skippable command, and all but the place stays
record IsKept (s : Scaled) (p : Progress) (pages : List PageSpan) (fonts : Fonts) (c : DviCommand) (next : ℕ) : Type 0 where
  good : fault_by p s fonts c ≡ None
  progress : record p { at = next } ≡ progress_after p c next
  pages_stay : pages ≡ pages_after p pages c
  fonts_stay : fonts ≡ fonts_after fonts c

kept : (s : Scaled) (p : Progress) (pages : List PageSpan) (fonts : Fonts) (c : DviCommand) (next : ℕ) → is_skippable c ≡ true → IsKept s p pages fonts c next
kept s p pages fonts (Bop counts back) next h = cc
kept s p pages fonts Eop next h = cc
kept s p pages fonts (Special text) next h = cc
kept s p pages fonts (Define d) next h = cc
kept s p pages fonts (Pre q) next h = cc
kept s p pages fonts (Post q) next h = cc
kept s p pages fonts (PostPost q id) next h = cc
kept s p pages fonts _ next h = record { good = refl; progress = refl; pages_stay = refl; fonts_stay = refl }

-- no PostPost stands on a page
no_postpost : (bytes : List ℕ) (p : Progress) → p.context ≡ context.Page → is_postpost_at p.context (drop p.at bytes) ≡ true → postpost_fault p.post p.at (drop p.at bytes) ≡ None
no_postpost bytes p page here =
    let on_page : is_postpost_at context.Page (drop p.at bytes) ≡ true = subst (λ (x : Context). is_postpost_at x (drop p.at bytes) ≡ true) page here in
    cc

plain_more : (bytes : List ℕ) (s : Scaled) (p : Progress) (pages : List PageSpan) (fonts : Fonts) (next : ℕ) → IsSkippableTo bytes p.at next → p.context ≡ context.Page → p.is_ended ≡ false
    → IsReadTo bytes s p pages fonts → IsReadTo bytes s (record p { at = next }) pages fonts
plain_more bytes s p pages fonts next skippable page going w =
    let stays = kept s p pages fonts skippable.command next skippable.skippable in
    let allowed : IsTrue (may_stand p.context (slice_index bytes p.at)) = subst (λ (x : Context). IsTrue (may_stand x (slice_index bytes p.at))) (sym page) skippable.allowed in
    read_as bytes s (progress_after p skippable.command next) (record p { at = next }) (pages_after p pages skippable.command) pages (fonts_after fonts skippable.command) fonts
    stays.progress stays.pages_stay stays.fonts_stay
    (reads_more bytes s p pages fonts w going (no_postpost bytes p page) skippable.command next skippable.spelled skippable.some skippable.within allowed stays.good)

pub none_passed : (bytes : List ℕ) (at : ℕ) → at ≤ length bytes → ArePassed bytes at at
none_passed bytes at inside = record {
  back = omega arith;
  within = inside;
  read = λ s p pages fonts place page going w. subst (λ (n : ℕ). IsReadTo bytes s (record p { at = n }) pages fonts) place w;
}

pub one_more_passed : (bytes : List ℕ) (at next end : ℕ) → ArePassed bytes at next → IsSkippableTo bytes next end → ArePassed bytes at end
one_more_passed bytes at next end passed skippable = record {
  back = omega (arith, passed.back, skippable.some);
  within = skippable.within;
  read = λ s p pages fonts place page going w.
      plain_more bytes s (record p { at = next }) pages fonts end skippable page going (passed.read s p pages fonts place page going w);
}
