-- What is printed to the notes in steps.
use Rattle.std.proofs.Common.{◌≡◌, ◌∙◌, ◌++◌, ◌+◌, ◌≤◌, ℕ, suc, Bool, true, false, List, [], ◌∷◌, length, refl, sym, ap, subst, append_assoc, arith, Option, None}
use Rattle.outside.proofs.Growth.{grown_none, grown_twice, prefix_of_first, prefix_of_more, rose_later}
use Rattle.page_draw.specs.Values.{DrawnValue}
use Rattle.dvi_run.specs.Lines.{lack_lines, lacks_from, lacks_text}
use Rattle.dvi_run.specs.Noted.{NotedLacks, Took, TookAfter, WrotePages}
use Rattle.dvi_run.specs.Outside.{StreamChange, change_of}
use Rattle.dvi_run.specs.declared.tally.Tally.{Tally}

pub took_as : (before all : Bool) (notes : StreamChange) (s t : List ℕ) → s ≡ t → TookAfter before all notes s → TookAfter before all notes t
took_as before all notes s t same took = subst (λ (x : List ℕ). TookAfter before all notes x) same took

module _ {N : Type 0} (written : N → Option (List ℕ)) (faults : N → ℕ) where
  abbrev pub From : N → N → StreamChange
  From a b = change_of written faults a b

  -- nothing
  pub took_none : (before : Bool) (a : N) → TookAfter before before (From a a) []
  took_none true a = grown_none (written a)
  took_none false a = (refl, refl)

  pub took_still : (before all : Bool) (a b : N) → all ≡ before → b ≡ a → TookAfter before all (From a b) []
  took_still before all a b same still =
      subst (λ (x : Bool). TookAfter before x (From a b) []) (sym same) (subst (λ (x : N). TookAfter before before (From a x) []) (sym still) (took_none before a))

  -- nothing more after they failed
  failed_more : (a b c : N) (all : Bool) (s t : List ℕ) → all ≡ false → c ≡ b → Took false (From a b) s → Took all (From a c) (s ++ t)
  failed_more a b c true s t is still took = absurd cc
  failed_more a b c false s t is still took =
      subst (λ (x : N). Took false (From a x) (s ++ t)) (sym still) (prefix_of_first (written a) (written b) s t took.0, took.1)

  whole_more : (a b c : N) (all : Bool) (s t : List ℕ) → faults a ≤ faults b → faults b ≤ faults c → Took true (From a b) s → Took all (From b c) t → Took all (From a c) (s ++ t)
  whole_more a b c true s t low high first took = grown_twice (written a) (written b) (written c) s t first took
  whole_more a b c false s t low high first took =
      (prefix_of_more (written a) (written b) (written c) s t first took.0, rose_later (faults a) (faults b) (faults c) low took.1 high)

  -- one text after another
  pub took_twice : (a b c : N) (before mid all : Bool) (s t : List ℕ) → faults a ≤ faults b → faults b ≤ faults c → TookAfter before mid (From a b) s → TookAfter mid all (From b c) t → TookAfter before all (From a c) (s ++ t)
  took_twice a b c true true all s t low high first took = whole_more a b c all s t low high first took
  took_twice a b c true false all s t low high first took = failed_more a b c all s t took.0 took.1 first
  took_twice a b c false true all s t low high first took = absurd (let is = first.0 in cc)
  took_twice a b c false false all s t low high first took = (took.0, took.1 ∙ first.1)

  -- ---- what pages lack

  lacks_append : (n : ℕ) (pages more : List DrawnValue) → lacks_from n (pages ++ more) ≡ lacks_from n pages ++ lacks_from (n + length pages) more
  lacks_append n [] more = let same : n ≡ n + 0 = omega arith in ap (λ (k : ℕ). lacks_from k more) same
  lacks_append n (page ∷ pages) more =
      let same : suc n + length pages ≡ n + length (page ∷ pages) = omega arith in
      ap (λ (x : List ℕ). lack_lines n page.lacks ++ x) (lacks_append (suc n) pages more ∙ ap (λ (k : ℕ). lacks_from (suc n) pages ++ lacks_from k more) same)
      ∙ sym (append_assoc (lack_lines n page.lacks) (lacks_from (suc n) pages) (lacks_from (n + length (page ∷ pages)) more))

  -- no page
  pub noted_none : (a : N) → NotedLacks (From a a) true []
  noted_none a = record { took = grown_none (written a); count = omega arith }

  -- some pages more
  pub noted_more : (a b c : N) (before all : Bool) (pages more : List DrawnValue) (n : ℕ) → length pages ≡ n → faults b ≤ faults c → NotedLacks (From a b) before pages
      → TookAfter before all (From b c) (lacks_from (n + 1) more) → NotedLacks (From a c) all (pages ++ more)
  noted_more a b c before all pages more n long high noted took =
      let low = noted.count in
      let at : n + 1 ≡ 1 + length pages = omega (arith, long) in
      let here : TookAfter before all (From b c) (lacks_from (1 + length pages) more) = subst (λ (k : ℕ). TookAfter before all (From b c) (lacks_from k more)) at took in
      record {
        took = took_as true all (From a c) (lacks_text pages ++ lacks_from (1 + length pages) more) (lacks_text (pages ++ more)) (sym (lacks_append 1 pages more))
            (took_twice a b c true before all (lacks_text pages) (lacks_from (1 + length pages) more) low high noted.took here);
        count = omega (arith, low, high);
      }

  -- where no cache was made
  pub idle_pages : (a : N) (tolerant : Bool) (Are : List DrawnValue → Type 0) → Are [] → WrotePages (From a a) tolerant None Are
  idle_pages a tolerant Are are = record { whole = []; count = refl; lacking = λ strict. tt; noted = noted_none a; are = are }

-- something else holds of the pages
pub pages_so : (notes : StreamChange) (tolerant : Bool) (tally : Option Tally) (P Q : List DrawnValue → Type 0) → ((whole : List DrawnValue) → P whole → Q whole) → WrotePages notes tolerant tally P → WrotePages notes tolerant tally Q
pages_so notes tolerant tally P Q f w = record { whole = w.whole; count = w.count; lacking = w.lacking; noted = w.noted; are = f w.whole w.are }
