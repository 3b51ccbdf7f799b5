-- A character of a virtual font, by how many packets may still stand inside one another.
use Rattle.std.proofs.Common.{◌≡◌, ◌∙◌, ℕ, zero, suc, ◌-◌, ◌<◌, ℤ, true, false, List, refl, ap, arith, Option, Some, None}
use Rattle.std.specs.Prelude.{IfSome, MatchOption, is_some}
use Rattle.outside.specs.declared.keys.FontKey.{FontKey}
use Rattle.dvi_commands.specs.Spelling.{DviCommand}
use Rattle.dvi_commands.specs.Reading.{commands_of}
use Rattle.drift_rules.specs.Position as flat
use Rattle.font_decode.specs.Fonts.{FontValue, packet_of}
use Rattle.vf_expand.specs.Faults.{Depth, NoPacket}
use Rattle.vf_expand.specs.Course.{Course, Stops, lacking, InPacket, deeper, expand_list, expand_one, first_font, leave, number_of, packet, gives, virtual}

-- what a packet that is entered gives
abbrev pub entered : ℕ → FontKey → FontValue → Option ℤ → Course → ℕ → List ℕ → Course
entered at k f advance after n text = gives flat.Enter at (expand_list (expand_one (deeper (n - 1) at) (InPacket k f) at) (first_font f) (commands_of text) (leave advance at after))

module _ (at : ℕ) (k : FontKey) (f : FontValue) (c : ℤ) (advance : Option ℤ) (after : Course) where
  none_deeper : virtual (deeper zero at) at k f c advance after ≡ Stops (Depth k c) at
  unfolding deeper
  none_deeper = refl

  pub too_deep : (n : ℕ) → n ≡ 0 → virtual (deeper n at) at k f c advance after ≡ Stops (Depth k c) at
  too_deep n none = ap (λ (m : ℕ). virtual (deeper m at) at k f c advance after) none ∙ none_deeper

  abbrev inner : ℕ → FontKey → FontValue → List DviCommand → Course → Course
  inner n l g commands rest = expand_list (expand_one (deeper n at) (InPacket l g) at) (first_font g) commands rest

  one_deeper : (n : ℕ) → virtual (deeper (suc n) at) at k f c advance after ≡ packet (inner n) at k f c advance (packet_of f (number_of c)) after
  unfolding deeper
  one_deeper n = refl

  pub no_packet : (n : ℕ) → 0 < n → packet_of f (number_of c) ≡ None → virtual (deeper n at) at k f c advance after ≡ lacking at (NoPacket k c) advance after
  no_packet zero some none = absurd (omega arith)
  no_packet (suc n) some none = one_deeper n ∙ ap (λ (o : Option (List ℕ)). packet (inner n) at k f c advance o after) none

  pub has_packet : (n : ℕ) (text : List ℕ) → 0 < n → packet_of f (number_of c) ≡ Some text
      → virtual (deeper n at) at k f c advance after ≡ entered at k f advance after n text
  has_packet zero text some there = absurd (omega arith)
  has_packet (suc n) text some there =
      let less : n ≡ suc n - 1 = omega arith in
      one_deeper n ∙ ap (λ (o : Option (List ℕ)). packet (inner n) at k f c advance o after) there
      ∙ ap (λ (m : ℕ). gives flat.Enter at (inner m k f (commands_of text) (leave advance at after))) less

-- ---- what a look-up of a packet says

pub at_none : {X : Type 0} (r : Option X) (P : Type 0) (Q : X → Type 0) → is_some r ≡ false → MatchOption r P Q → P
at_none None P Q e h = h
at_none (Some x) P Q e h = absurd cc

pub at_some : {X : Type 0} (seen : X → List ℕ) (r : Option X) (o : Option (List ℕ)) (P : List ℕ → Type 0) → is_some r ≡ true → MatchOption r (o ≡ None) (λ x. o ≡ Some (seen x))
    → IfSome r (λ x. P (seen x)) → (text : List ℕ) × (o ≡ Some text) × P text
at_some seen None o P e h i = absurd cc
at_some seen (Some x) o P e h i = (seen x, h, i)
