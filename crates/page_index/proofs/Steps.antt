-- One command more of a document, and why there is none.
use Rattle.std.proofs.Common.{◌≡◌, ℕ, suc, ◌-◌, ◌<◌, ◌≤◌, inl, inr, ℤ, pos, Bool, true, false, List, [], ◌∷◌, ◌++◌, length, take, drop, refl, sym, ap, subst, ◌∙◌, arith, append_assoc, eqb-true, Option, Some, None, drop-cons, length-take, length-drop}
use Rattle.std.specs.Prelude.{slice_index, slice_range, IsTrue, ◌==◌, not, nat_le, nat_lt, if◌then◌else◌}
use Rattle.std.specs.Bool.{MatchBool}
use Rattle.std.proofs.lemmas.Bool.{and_parts, le-ltb, leb-false}
use Rattle.big_endian.specs.Numbers.{int_eq}
use Rattle.dvi_commands.specs.Spelling.{DviCommand, Preamble, Pre, Bop, Eop, Post, PostPost, Define, Spells, spelling}
use Rattle.dvi_commands.specs.Refusal.{may_stand, refusal}
use Rattle.dvi_commands.specs.Reading.{Placed, command_of}
use Rattle.dvi_commands.specs.declared.command.CommandFault.{CommandFault}
use Rattle.dvi_commands.specs.declared.command.Context.{Context}
use Rattle.dvi_commands.specs.declared.command.Context.TheVariants as context
use Rattle.dvi_commands.proofs.Commands.{parted}
use Rattle.dvi_commands.proofs.Determined.{determined_by_bytes}
use Rattle.page_index.specs.Judged.{bop_fault, define_fault, post_fault, post_fault_against, postpost_fault}
use Rattle.page_index.specs.Limits.{MAX_PAGES}
use Rattle.page_index.specs.Document.{Reading, context_after, end_of, is_ended, is_postpost, last_bop, post_at, preamble_of, preamble_or, text_of, whole_fault}
use Rattle.page_index.specs.Faults.{FaultAfterCommand, FaultAtCommand, FaultAfter, FaultWithin, IsFirstFault, as_doc_fault, is_postpost_at}
use Rattle.page_index.specs.Fonts.{Fonts}
use Rattle.page_index.specs.Walked.{EarlyFault, Follows, IsReadTo, KeepsPreamble, fault_by, fonts_after, pages_after, position_or_none, progress_after}
use Rattle.page_index.specs.declared.faults.DocFault.{DocFault}
use Rattle.page_index.specs.declared.faults.DocFault.TheVariants as fault
use Rattle.page_index.specs.declared.preamble.Scaled.{Scaled}
use Rattle.page_index.specs.declared.progress.Progress.{Progress}
use Rattle.page_index.specs.declared.progress.PageSpan.{PageSpan}
use Rattle.page_index.proofs.Contexts.{at_start, SaysOf, says_of}
use Rattle.page_index.proofs.Fields.{postpost_same, postpost_there}
use Rattle.page_index.proofs.Follow.{IsGood, follows_next}

first_byte : (bytes : List ℕ) (at next : ℕ) → at < next → next ≤ length bytes → slice_index (slice_range bytes at next) 0 ≡ slice_index bytes at
first_byte bytes at next some within =
    let size : next - at ≡ suc (next - at - 1) = omega arith in
    let here : at < length bytes = omega arith in
    ap (λ (k : ℕ). slice_index (take k (drop at bytes)) 0) size
    ∙ ap (λ (t : List ℕ). slice_index (take (suc (next - at - 1)) t) 0) (drop-cons bytes at 0 here)

prefix_byte : (bytes : List ℕ) (at : ℕ) → at < length bytes → slice_index (drop at bytes) 0 ≡ slice_index bytes at
prefix_byte bytes at h = ap (λ (t : List ℕ). slice_index t 0) (drop-cons bytes at 0 h)

-- the command that was read
abbrev pub read_here : List ℕ → Progress → DviCommand → ℕ → Placed
read_here bytes p c next = record { at = p.at; command = c; bytes = slice_range bytes p.at next }

-- not after the preamble, and not before the end
abbrev pub is_whole_judged : DviCommand → Bool
is_whole_judged (Pre q) = false
is_whole_judged (PostPost q id) = false
is_whole_judged _ = true

post_is : (bytes : List ℕ) (c : DviCommand) → Spells c bytes → slice_index bytes 0 ≡ 249 → is_postpost c ≡ true
post_is [] c h op = cc
post_is (b ∷ bytes) c h op =
    let first : b ≡ 249 = op in
    ap is_postpost (determined_by_bytes c (b ∷ bytes) h ∙ ap (λ (n : ℕ). command_of (n ∷ bytes)) first)

module _ (bytes : List ℕ) (s : Scaled) (p : Progress) (pages : List PageSpan) (fonts : Fonts) (w : IsReadTo bytes s p pages fonts) (open_end : p.is_ended ≡ false) where
  abbrev f : Follows bytes p pages fonts w.reading
  f = w.follows

  abbrev rest : List ℕ
  rest = drop p.at bytes

  going : is_ended w.reading ≡ false
  going = sym f.ended ∙ open_end

  begun : w.reading ≡ [] → ⊥
  begun e =
      let none : preamble_of w.reading ≡ None = ap preamble_of e in
      let bad : Some w.preamble.preamble ≡ None = sym w.preamble.is ∙ none in
      cc

  -- ---- a command's fault, by what is kept

  same_fault : (c : DviCommand) (text : List ℕ) → is_whole_judged c ≡ true → whole_fault s.units.res w.reading p.at text c ≡ fault_by p s fonts c
  same_fault (Define d) text h = ap (λ known. define_fault known p.at d) (sym (f.keys d.number))
  same_fault (Bop counts back) text h =
      ap (λ (n : ℕ). bop_fault n (last_bop w.reading) p.at back) (sym f.begun) ∙ ap (λ (z : ℤ). bop_fault p.begun z p.at back) (sym f.bop)
  same_fault (Post q) text h =
      let k : KeepsPreamble s w.reading = w.preamble in
      ap (λ (n : ℕ). post_fault n (last_bop w.reading) (preamble_of w.reading) p.at q) (sym f.begun)
      ∙ ap (λ (z : ℤ). post_fault p.begun z (preamble_of w.reading) p.at q) (sym f.bop)
      ∙ ap (λ (o : Option Preamble). post_fault p.begun (position_or_none p.bop) o p.at q) k.is
      ∙ ap (λ (z : ℤ). post_fault_against p.begun (position_or_none p.bop) z k.preamble.den k.preamble.mag p.at q) k.scaled.num_is
      ∙ ap (λ (z : ℤ). post_fault_against p.begun (position_or_none p.bop) (pos s.units.num) z k.preamble.mag p.at q) k.scaled.den_is
      ∙ ap (λ (z : ℤ). post_fault_against p.begun (position_or_none p.bop) (pos s.units.num) (pos s.units.den) z p.at q) k.scaled.mag_is
  same_fault (Pre q) text h = cc
  same_fault (PostPost q id) text h = cc
  same_fault _ text h = refl

  -- ---- a first fault

  pub first_fault : (g : DocFault) → FaultWithin s.units.res w.reading rest g → IsFirstFault s.units.res bytes g
  first_fault g h = inr (w.fits, w.reading, rest, w.sound, sym w.text, after w.reading going begun h)
    where
      after_command : (reading : Reading) (c : DviCommand) → is_postpost c ≡ false → FaultWithin s.units.res reading rest g → FaultAfterCommand s.units.res reading c rest g
      after_command reading (PostPost q id) e h = cc
      after_command reading _ e h = h

      after : (reading : Reading) → is_ended reading ≡ false → (reading ≡ [] → ⊥) → FaultWithin s.units.res reading rest g → FaultAfter s.units.res reading rest g
      after [] e some h = absurd (some refl)
      after (q ∷ before) e some h = after_command (q ∷ before) q.command e h

  pub early_fault : (g : DocFault) → EarlyFault p.context p.post p.at rest g → IsFirstFault s.units.res bytes g
  early_fault g h = first_fault g (at_true (is_postpost_at (context_after w.reading) rest) _ _ here.0 here.1)
    where
      here : (is_postpost_at (context_after w.reading) rest ≡ true) × (postpost_fault (post_at w.reading) (end_of w.reading) rest ≡ Some g)
      here =
          subst (λ (at : ℕ). (is_postpost_at (context_after w.reading) rest ≡ true) × (postpost_fault (post_at w.reading) at rest ≡ Some g)) f.at
          (subst (λ (o : Option ℕ). (is_postpost_at (context_after w.reading) rest ≡ true) × (postpost_fault o p.at rest ≡ Some g)) f.post
          (subst (λ (c : Context). (is_postpost_at c rest ≡ true) × (postpost_fault p.post p.at rest ≡ Some g)) f.stands h))

      at_true : (b : Bool) (P Q : Type 0) → b ≡ true → P → MatchBool b P Q
      at_true true P Q e p = p
      at_true false P Q e p = cc

  module _ (early : is_postpost_at p.context rest ≡ true → postpost_fault p.post p.at rest ≡ None) where
    -- ---- no command can be read

    whole_there : (place : Context) → is_postpost_at place rest ≡ true → postpost_fault p.post p.at rest ≡ None → refusal place rest ≡ None
    whole_there place is none = by place rest both.0 (eqb-true (slice_index rest 0) 249 both.1) (postpost_there p.post p.at rest none).1.1.0
      where
        both : (may_stand place 249 ≡ true) × ((slice_index rest 0 == 249) ≡ true)
        both = and_parts (may_stand place 249) (slice_index rest 0 == 249) is

        by : (place : Context) (text : List ℕ) → may_stand place 249 ≡ true → slice_index text 0 ≡ 249 → 6 ≤ length text → refusal place text ≡ None
        by place [] m op long = cc
        by context.Post (b ∷ text) m op long =
            let first : b ≡ 249 = op in
            let enough : nat_lt (length text) 5 ≡ false = le-ltb (length text) 5 (omega (arith, long)) in
            ap (λ (n : ℕ). refusal context.Post (n ∷ text)) first ∙ rw enough refl
        by context.Start (b ∷ text) m op long = cc
        by context.Between (b ∷ text) m op long = cc
        by context.Page (b ∷ text) m op long = cc
        by context.Packet (b ∷ text) m op long = cc

    none_some : {A B : Type 0} (o : Option A) (x : A) → o ≡ None → o ≡ Some x → B
    none_some None x e g = absurd cc
    none_some (Some y) x e g = absurd cc

    pub refused_fault : (c : CommandFault) → refusal p.context rest ≡ Some c → IsFirstFault s.units.res bytes (as_doc_fault p.at rest c)
    refused_fault c h = first_fault (as_doc_fault p.at rest c) (by (is_postpost_at (context_after w.reading) rest) refl)
      where
        by : (postpost : Bool) → is_postpost_at (context_after w.reading) rest ≡ postpost
            → MatchBool postpost (postpost_fault (post_at w.reading) (end_of w.reading) rest ≡ Some (as_doc_fault p.at rest c)) (FaultAtCommand s.units.res w.reading rest (as_doc_fault p.at rest c))
        by true e =
            let here : is_postpost_at p.context rest ≡ true = ap (λ (x : Context). is_postpost_at x rest) f.stands ∙ e in
            none_some (refusal p.context rest) c (whole_there p.context here (early here)) h
        by false e = inl (c, ap (λ (x : Context). refusal x rest) (sym f.stands) ∙ h, ap (λ (n : ℕ). as_doc_fault n rest c) f.at)

    -- ---- a command was read

    module _ (c : DviCommand) (next : ℕ) (spelled : Spells c (slice_range bytes p.at next)) (some : p.at < next) (within : next ≤ length bytes)
        (allowed : IsTrue (may_stand p.context (slice_index bytes p.at))) where
      abbrev q : Placed
      q = read_here bytes p c next

      op : slice_index q.bytes 0 ≡ slice_index bytes p.at
      op = first_byte bytes p.at next some within

      prefix : slice_index rest 0 ≡ slice_index q.bytes 0
      prefix = prefix_byte bytes p.at (omega (arith, some, within)) ∙ sym op

      stands : IsTrue (may_stand (context_after w.reading) (slice_index q.bytes 0))
      stands = subst (λ (x : Context). IsTrue (may_stand x (slice_index q.bytes 0))) f.stands (subst (λ (k : ℕ). IsTrue (may_stand p.context k)) (sym op) allowed)

      whole : rest ≡ q.bytes ++ drop next bytes
      whole = parted bytes p.at next some

      judged_whole : (d : DviCommand) → c ≡ d → (g : Option DocFault) → fault_by p s fonts d ≡ g → is_whole_judged d ≡ true → whole_fault s.units.res w.reading (end_of w.reading) q.bytes d ≡ g
      judged_whole d e g h j = ap (λ (n : ℕ). whole_fault s.units.res w.reading n q.bytes d) (sym f.at) ∙ same_fault d q.bytes j ∙ h

      -- something is wrong with it
      pub judged_fault : (g : DocFault) → fault_by p s fonts c ≡ Some g → IsFirstFault s.units.res bytes g
      judged_fault g h = first_fault g (by (is_postpost_at (context_after w.reading) rest) refl)
        where
          judged : (d : DviCommand) → fault_by p s fonts d ≡ Some g → is_whole_judged d ≡ true
          judged (Pre x) h = cc
          judged (PostPost x id) h = cc
          judged _ h = refl

          not_both : (d : DviCommand) → is_postpost d ≡ true → is_whole_judged d ≡ true → ⊥
          not_both (PostPost x id) e j = cc
          not_both _ e j = cc

          by : (postpost : Bool) → is_postpost_at (context_after w.reading) rest ≡ postpost
              → MatchBool postpost (postpost_fault (post_at w.reading) (end_of w.reading) rest ≡ Some g) (FaultAtCommand s.units.res w.reading rest g)
          by true e =
              let both = and_parts (may_stand (context_after w.reading) 249) (slice_index rest 0 == 249) e in
              let is_249 : slice_index q.bytes 0 ≡ 249 = sym prefix ∙ eqb-true (slice_index rest 0) 249 both.1 in
              absurd (not_both c (post_is q.bytes c spelled is_249) (judged c h))
          by false e = inr (c, q.bytes, drop next bytes, whole, spelled, stands, judged_whole c refl (Some g) h (judged c h))

      -- nothing is wrong with it
      module _ (good : fault_by p s fonts c ≡ None) where
        not_pre : (d : DviCommand) → c ≡ d → (x : Preamble) → d ≡ Pre x → ⊥
        not_pre d e x is =
            let text : Spells (Pre x) q.bytes = subst (λ (y : DviCommand). Spells y q.bytes) (e ∙ is) spelled in
            let is_247 : slice_index q.bytes 0 ≡ 247 = ap (λ (t : List ℕ). slice_index t 0) text.2 in
            let start : context_after w.reading ≡ context.Start = at_start (context_after w.reading) (subst (λ (k : ℕ). IsTrue (may_stand (context_after w.reading) k)) is_247 stands) in
            begun (subst (λ (y : Context). SaysOf y w.reading) start (says_of w.reading))

        right_postpost : (x : ℤ) (id : ℕ) → c ≡ PostPost x id → postpost_fault (post_at w.reading) p.at q.bytes ≡ None
        right_postpost x id e =
            let text : Spells (PostPost x id) q.bytes = subst (λ (y : DviCommand). Spells y q.bytes) e spelled in
            let is_249 : slice_index q.bytes 0 ≡ 249 = ap (λ (t : List ℕ). slice_index t 0) text.2 in
            let may : may_stand p.context 249 ≡ true = subst (λ (k : ℕ). may_stand p.context k ≡ true) (sym op ∙ is_249) allowed in
            let here : is_postpost_at p.context rest ≡ true = rw (may, prefix ∙ is_249) refl in
            let told : postpost_fault p.post p.at (spelling (PostPost x id) 0 ++ drop next bytes) ≡ None =
            subst (λ (t : List ℕ). postpost_fault p.post p.at t ≡ None) (whole ∙ ap (λ (t : List ℕ). t ++ drop next bytes) text.2) (early here) in
            ap (λ (o : Option ℕ). postpost_fault o p.at q.bytes) (sym f.post) ∙ ap (postpost_fault p.post p.at) text.2 ∙ sym (postpost_same p.post p.at x id (drop next bytes)) ∙ told

        right : (d : DviCommand) → c ≡ d → fault_by p s fonts d ≡ None → whole_fault s.units.res w.reading p.at q.bytes d ≡ None
        right (Pre x) e h = absurd (not_pre (Pre x) e x refl)
        right (PostPost x id) e h = right_postpost x id e
        right (Define d) e h = same_fault (Define d) q.bytes refl ∙ h
        right (Bop counts back) e h = same_fault (Bop counts back) q.bytes refl ∙ h
        right (Post x) e h = same_fault (Post x) q.bytes refl ∙ h
        right _ e h = refl

        few_begun : (n : ℕ) (last : ℤ) (at : ℕ) (back : ℤ) → bop_fault n last at back ≡ None → n < MAX_PAGES
        few_begun n last at back h = by (nat_le MAX_PAGES n) refl (not (int_eq back last)) h
          where
            by : (many : Bool) → nat_le MAX_PAGES n ≡ many → (wrong : Bool) → (if many then Some (fault.TooManyPages at) else if wrong then Some (fault.BackPointer at) else None) ≡ None → n < MAX_PAGES
            by true e wrong h = cc
            by false e wrong h = leb-false MAX_PAGES n e

        is_good : (d : DviCommand) → fault_by p s fonts d ≡ None → IsGood bytes p pages fonts w.reading q next f refl refl some within spelled stands going begun d
        is_good (Define d) h = h
        is_good (Bop counts back) h = few_begun p.begun (position_or_none p.bop) p.at back h
        is_good _ h = tt

        keeps : (d : DviCommand) → c ≡ d → preamble_or (preamble_of w.reading) d ≡ Some w.preamble.preamble
        keeps (Pre x) e = absurd (not_pre (Pre x) e x refl)
        keeps _ e = w.preamble.is

        pub reads_more : IsReadTo bytes s (progress_after p c next) (pages_after p pages c) (fonts_after fonts c)
        reads_more =
            let more : Follows bytes (progress_after p c next) (pages_after p pages c) (fonts_after fonts c) (q ∷ w.reading) =
            follows_next bytes p pages fonts w.reading q next f refl refl some within spelled stands going begun c refl (is_good c good) in
            let size : length q.bytes ≡ next - p.at = grind (arith, length-take, length-drop) in
            let at : (progress_after p c next).at ≡ next = omega (arith, more.at, size, some) in
            record {
              reading = q ∷ w.reading;
              fits = w.fits;
              sound = (w.sound, record { unfinished = going; place = f.at; spelled = spelled; allowed = stands; right = right c refl good });
              text = ap (λ (k : ℕ). (text_of w.reading ++ q.bytes) ++ drop k bytes) at
                  ∙ append_assoc (text_of w.reading) q.bytes (drop next bytes)
                  ∙ ap (λ (t : List ℕ). text_of w.reading ++ t) (sym whole) ∙ w.text;
              within = subst (λ (k : ℕ). k ≤ length bytes) (sym at) within;
              preamble = record { preamble = w.preamble.preamble; is = keeps c refl; scaled = w.preamble.scaled };
              follows = more;
            }

pub next_at : (p : Progress) (c : DviCommand) (next : ℕ) → (progress_after p c next).at ≡ next
next_at p (Bop counts back) next = refl
next_at p Eop next = refl
next_at p (Post q) next = refl
next_at p (PostPost q id) next = refl
next_at p _ next = refl

-- what is kept, under other names
pub read_as : (bytes : List ℕ) (s : Scaled) (p q : Progress) (pages others : List PageSpan) (fonts table : Fonts) → q ≡ p → others ≡ pages → table ≡ fonts
    → IsReadTo bytes s p pages fonts → IsReadTo bytes s q others table
read_as bytes s p q pages others fonts table a b c w =
    subst (λ (x : Progress). IsReadTo bytes s x others table) (sym a)
    (subst (λ (x : List PageSpan). IsReadTo bytes s p x table) (sym b)
    (subst (λ (x : Fonts). IsReadTo bytes s p pages x) (sym c) w))
