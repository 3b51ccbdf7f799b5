-- The libraries of the two samples differ in how rasters are packed.
use Rattle.std.proofs.Common.{◌≡◌, ◌≢◌, ◌∙◌, inl, inr, ℕ, Bool, true, false, cond, List, ◌++◌, Option, Some, None, refl, sym, ap, subst, arith}
use Rattle.std.specs.Prelude.{codes, decimal, fold}
use Rattle.std.specs.Cmp.Lexicographic.{same_text, slice_cmp, texts_ties}
use Rattle.std.specs.FinMap.{find, get}
use Rattle.std.specs.Ordering.{eq_by_cmp, nat_cmp}
use Rattle.std.proofs.lemmas.Bool.{cases_Bool, true≢false}
use Rattle.std.proofs.lemmas.List.Sums.{fold-append}
use Rattle.font_decode.specs.Names.{glyph_name, tfm_name, vf_name}
use Rattle.sample_maker.specs.Sample.{bar_pk, dot_pk, named_files, other_files, packed_bar_pk, packed_dot_pk, packed_files, sample_files}
use Rattle.sample_maker.proofs.SampleFonts.{six_files}
use Rattle.repacked_fonts.specs.Repacked.{IsRepacked}
use Rattle.repacked_fonts.specs.Laws.{SampleFontsAreDecodedAlike, SamplePagesAreTheSame, SamplesDifferInPacking}
use Rattle.repacked_fonts.proofs.Fonts.{repacked_fonts_are_decoded_alike}
use Rattle.repacked_fonts.proofs.Glyphs.{bar_repacked, dot_repacked}
use Rattle.repacked_fonts.proofs.Pages.{repacked_pages_are_the_same}

-- ---- names

-- whether two names are one
abbrev is_name : List ℕ → List ℕ → Bool
is_name name key = eq_by_cmp (slice_cmp nat_cmp) name key

abbrev last_byte : List ℕ → ℕ
last_byte name = fold (λ (before byte : ℕ). byte) 0 name

last_of : (name kind : List ℕ) → last_byte (name ++ kind) ≡ fold (λ (before byte : ℕ). byte) (last_byte name) kind
last_of name kind = fold-append (λ (before byte : ℕ). byte) 0 name kind

other_name : (name key : List ℕ) (m n : ℕ) → last_byte name ≡ m → last_byte key ≡ n → m ≢ n → is_name name key ≡ false
other_name name key m n p q apart = elim (cases_Bool (is_name name key)) [
  | inl is ↦ absurd (apart (sym p ∙ ap last_byte (same_text name key (sym (texts_ties name key ∙ is))) ∙ q))
  | inr not ↦ not
]

-- ---- files

two_skipped : (p q : Bool) (a b c d rest : Option (List ℕ)) → p ≡ false → q ≡ false → cond p a (cond q b rest) ≡ cond p c (cond q d rest)
two_skipped true q a b c d rest e f = absurd (true≢false e)
two_skipped false true a b c d rest e f = absurd (true≢false f)
two_skipped false false a b c d rest e f = refl

-- the files whose names end otherwise
same_file : (name : List ℕ) (m : ℕ) → last_byte name ≡ m → m ≢ 107 → get sample_files name ≡ get packed_files name
same_file name m is apart =
    six_files.0 name
    ∙ two_skipped (is_name name (codes "dot.300pk")) (is_name name (codes "bar.300pk")) (Some dot_pk) (Some bar_pk) (Some packed_dot_pk) (Some packed_bar_pk) (find (slice_cmp nat_cmp) name other_files)
    (other_name name (codes "dot.300pk") m 107 is refl apart) (other_name name (codes "bar.300pk") m 107 is refl apart)
    ∙ sym (six_files.1 name)

itself : (o : Option (List ℕ)) → IsRepacked o o
itself None = tt
itself (Some bytes) = inl refl

two_repacked : (p q : Bool) (rest : Option (List ℕ)) → IsRepacked (cond p (Some dot_pk) (cond q (Some bar_pk) rest)) (cond p (Some packed_dot_pk) (cond q (Some packed_bar_pk) rest))
two_repacked true q rest = inr dot_repacked
two_repacked false true rest = inr bar_repacked
two_repacked false false rest = itself rest

repacked_file : (name : List ℕ) → IsRepacked (get sample_files name) (get packed_files name)
repacked_file name =
    subst (λ (o : Option (List ℕ)). IsRepacked o (get packed_files name)) (sym (six_files.0 name))
    (subst (λ (o : Option (List ℕ)). IsRepacked (find (slice_cmp nat_cmp) name named_files) o) (sym (six_files.1 name))
    (two_repacked (is_name name (codes "dot.300pk")) (is_name name (codes "bar.300pk")) (find (slice_cmp nat_cmp) name other_files)))

pub samples_differ_in_packing : SamplesDifferInPacking
samples_differ_in_packing = record {
  tfm = λ k. same_file (tfm_name k) 109 (last_of k.name (codes ".tfm")) (λ e. omega (arith, e));
  vf = λ k. same_file (vf_name k) 102 (last_of k.name (codes ".vf")) (λ e. omega (arith, e));
  pk = λ k n. repacked_file (glyph_name (codes "pk") k n);
  gf = λ k n. same_file (glyph_name (codes "gf") k n) 102 (last_of (k.name ++ codes "." ++ decimal n) (codes "gf")) (λ e. omega (arith, e));
}

pub sample_fonts_are_decoded_alike : SampleFontsAreDecodedAlike
sample_fonts_are_decoded_alike = repacked_fonts_are_decoded_alike sample_files packed_files samples_differ_in_packing

pub sample_pages_are_the_same : SamplePagesAreTheSame
sample_pages_are_the_same = repacked_pages_are_the_same sample_files packed_files samples_differ_in_packing
