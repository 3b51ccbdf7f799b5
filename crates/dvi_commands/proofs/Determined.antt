-- The bytes of a spelling determine the command: reading a spelling back.
use Rattle.std.proofs.Common.{◌≡◌, ℕ, zero, suc, ◌+◌, ◌-◌, ◌^◌, ◌<◌, ◌≤◌, ℤ, pos, negsuc, List, [], ◌∷◌, ◌++◌, length, take, drop, refl, sym, ap, subst, ◌∙◌, arith, inl, inr, append_assoc}
use Rattle.std.specs.Prelude.{◌==◌, if◌then◌else◌}
use Rattle.std.specs.List.{flat_map, AllByRecursion}
use Rattle.std.proofs.lemmas.Bool.{le-leb, lt-leb}
use Rattle.std.proofs.lemmas.List.{drop_at}
use Rattle.std.proofs.lemmas.List.Concat.{flat_map-cons}
use Rattle.big_endian.specs.Numbers.{unsigned_of, signed_of, number_bytes, IsSigned}
use Rattle.dvi_commands.specs.Spelling.{DviCommand, Definition, Preamble, Postamble, Set, Put, SetRule, PutRule, Nop, Bop, Eop, Push, Pop, Right, W0, W, X0, X, Down, Y0, Y, Z0, Z, Font, Special, Define, Pre, Post, PostPost, spelling, HasWidth, IsOperand, quad, Spells}
use Rattle.dvi_commands.specs.SpellingLaws.{SpellingDeterminesTheCommand}
use Rattle.big_endian.proofs.Bytes.{signed_is_read_again, unsigned_is_read_again}
use Rattle.dvi_commands.proofs.Prefix.{by_width, wide, length-quads}
use Rattle.dvi_commands.specs.Reading.{command_of, quads, signed_from}

-- ---- the fields

quad_again : (z : ℤ) → IsSigned 4 z → signed_of (quad z) ≡ z
quad_again z h = signed_is_read_again 4 z (omega arith) (omega arith) h

abbrev code_value : ℕ → ℤ → ℤ
code_value n z = if n == 4 then signed_of (number_bytes 4 z) else pos (unsigned_of (number_bytes n z))

code_again : (n : ℕ) (z : ℤ) → IsOperand n z → code_value n z ≡ z
code_again n z (inr h) = subst (λ (k : ℕ). code_value k z ≡ z) (sym h.0) (quad_again z h.1)
code_again zero z (inl h) = absurd (omega (arith, h.0))
code_again (suc zero) (pos m) (inl h) = ap pos (unsigned_is_read_again 1 m (omega arith) (omega arith) h.2)
code_again (suc (suc zero)) (pos m) (inl h) = ap pos (unsigned_is_read_again 2 m (omega arith) (omega arith) h.2)
code_again (suc (suc (suc zero))) (pos m) (inl h) = ap pos (unsigned_is_read_again 3 m (omega arith) (omega arith) h.2)
code_again (suc (suc (suc (suc n)))) z (inl h) = absurd (omega (arith, h.1))
code_again (suc n) (negsuc m) (inl h) = elim h.2 [ ]

quads_again : (zs : List ℤ) (rest : List ℕ) → AllByRecursion (IsSigned 4) zs → quads (length zs) (flat_map quad zs ++ rest) ≡ zs
quads_again [] rest h = refl
quads_again (z ∷ zs) rest h =
    let whole : flat_map quad (z ∷ zs) ++ rest ≡ quad z ++ (flat_map quad zs ++ rest) = ap (λ (x : List ℕ). x ++ rest) (flat_map-cons quad z zs) ∙ append_assoc (quad z) (flat_map quad zs) rest in
    let first : quads (suc (length zs)) (quad z ++ (flat_map quad zs ++ rest)) ≡ signed_of (quad z) ∷ quads (length zs) (flat_map quad zs ++ rest) = refl in
    ap (quads (suc (length zs))) whole ∙ first ∙ ap (λ x. x ∷ quads (length zs) (flat_map quad zs ++ rest)) (quad_again z h.0) ∙ ap (λ xs. z ∷ xs) (quads_again zs rest h.1)

rule_again : (make : ℤ → ℤ → DviCommand) (a b : ℤ) → IsSigned 4 a → IsSigned 4 b → make (signed_of (quad a)) (signed_of (quad b)) ≡ make a b
rule_again make a b ha hb = ap (λ x. make x (signed_of (quad b))) (quad_again a ha) ∙ ap (make a) (quad_again b hb)

bop_again : (counts : List ℤ) (back : ℤ) → length counts ≡ 10 → AllByRecursion (IsSigned 4) counts → IsSigned 4 back
    → Bop (quads 10 (flat_map quad counts ++ quad back)) (signed_from (flat_map quad counts ++ quad back) 40) ≡ Bop counts back
bop_again counts back ten all h =
    let after : drop 40 (flat_map quad counts ++ quad back) ≡ quad back = drop_at (flat_map quad counts) (quad back) 40 (omega (arith, length-quads counts, ten)) in
    let first : quads 10 (flat_map quad counts ++ quad back) ≡ counts = ap (λ (k : ℕ). quads k (flat_map quad counts ++ quad back)) (sym ten) ∙ quads_again counts (quad back) all in
    let second : signed_from (flat_map quad counts ++ quad back) 40 ≡ back = ap (λ (x : List ℕ). signed_of (take 4 x)) after ∙ quad_again back h in
    ap (λ x. Bop x (signed_from (flat_map quad counts ++ quad back) 40)) first ∙ ap (Bop counts) second

abbrev made : ℤ → ℕ → ℤ → ℤ → ℕ → List ℕ → DviCommand
made number check size design area name = Define (record { number = number; check = check; size = size; design = design; area = area; name = name })

check_again : (m : ℕ) → m < 2 ^ 32 → unsigned_of (number_bytes 4 (pos m)) ≡ m
check_again m h = unsigned_is_read_again 4 m (omega arith) (omega arith) (omega (arith, h))

define_again : (d : Definition) (n : ℕ) → HasWidth (Define d) n → made (code_value n d.number) (unsigned_of (number_bytes 4 (pos d.check))) (signed_of (quad d.size)) (signed_of (quad d.design)) d.area d.name ≡ Define d
define_again d n h =
    ap (λ x. made x (unsigned_of (number_bytes 4 (pos d.check))) (signed_of (quad d.size)) (signed_of (quad d.design)) d.area d.name) (code_again n d.number h.0)
    ∙ ap (λ x. made d.number x (signed_of (quad d.size)) (signed_of (quad d.design)) d.area d.name) (check_again d.check h.1.check)
    ∙ ap (λ x. made d.number d.check x (signed_of (quad d.design)) d.area d.name) (quad_again d.size h.1.size)
    ∙ ap (λ x. made d.number d.check d.size x d.area d.name) (quad_again d.design h.1.design)

abbrev preamble : ℕ → ℤ → ℤ → ℤ → List ℕ → DviCommand
preamble id num den mag text = Pre (record { id = id; num = num; den = den; mag = mag; text = text })

pre_again : (p : Preamble) → IsSigned 4 p.num → IsSigned 4 p.den → IsSigned 4 p.mag → preamble p.id (signed_of (quad p.num)) (signed_of (quad p.den)) (signed_of (quad p.mag)) p.text ≡ Pre p
pre_again p h1 h2 h3 =
    ap (λ x. preamble p.id x (signed_of (quad p.den)) (signed_of (quad p.mag)) p.text) (quad_again p.num h1)
    ∙ ap (λ x. preamble p.id p.num x (signed_of (quad p.mag)) p.text) (quad_again p.den h2)
    ∙ ap (λ x. preamble p.id p.num p.den x p.text) (quad_again p.mag h3)

abbrev postamble : ℤ → ℤ → ℤ → ℤ → ℤ → ℤ → ℕ → ℕ → DviCommand
postamble back num den mag tallest widest deepest pages = Post (record { back = back; num = num; den = den; mag = mag; tallest = tallest; widest = widest; deepest = deepest; pages = pages })

pair_again : (m : ℕ) → m < 2 ^ 16 → unsigned_of (number_bytes 2 (pos m)) ≡ m
pair_again m h = unsigned_is_read_again 2 m (omega arith) (omega arith) (omega (arith, h))

post_again : (p : Postamble) → HasWidth (Post p) 0
    → postamble (signed_of (quad p.back)) (signed_of (quad p.num)) (signed_of (quad p.den)) (signed_of (quad p.mag)) (signed_of (quad p.tallest)) (signed_of (quad p.widest)) (unsigned_of (number_bytes 2 (pos p.deepest))) (unsigned_of (number_bytes 2 (pos p.pages))) ≡ Post p
post_again p h =
    let q = h.1 in
    ap (λ x. postamble x (signed_of (quad p.num)) (signed_of (quad p.den)) (signed_of (quad p.mag)) (signed_of (quad p.tallest)) (signed_of (quad p.widest)) (unsigned_of (number_bytes 2 (pos p.deepest))) (unsigned_of (number_bytes 2 (pos p.pages)))) (quad_again p.back q.0)
    ∙ ap (λ x. postamble p.back x (signed_of (quad p.den)) (signed_of (quad p.mag)) (signed_of (quad p.tallest)) (signed_of (quad p.widest)) (unsigned_of (number_bytes 2 (pos p.deepest))) (unsigned_of (number_bytes 2 (pos p.pages)))) (quad_again p.num q.1.0)
    ∙ ap (λ x. postamble p.back p.num x (signed_of (quad p.mag)) (signed_of (quad p.tallest)) (signed_of (quad p.widest)) (unsigned_of (number_bytes 2 (pos p.deepest))) (unsigned_of (number_bytes 2 (pos p.pages)))) (quad_again p.den q.1.1.0)
    ∙ ap (λ x. postamble p.back p.num p.den x (signed_of (quad p.tallest)) (signed_of (quad p.widest)) (unsigned_of (number_bytes 2 (pos p.deepest))) (unsigned_of (number_bytes 2 (pos p.pages)))) (quad_again p.mag q.1.1.1.0)
    ∙ ap (λ x. postamble p.back p.num p.den p.mag x (signed_of (quad p.widest)) (unsigned_of (number_bytes 2 (pos p.deepest))) (unsigned_of (number_bytes 2 (pos p.pages)))) (quad_again p.tallest q.1.1.1.1.0)
    ∙ ap (λ x. postamble p.back p.num p.den p.mag p.tallest x (unsigned_of (number_bytes 2 (pos p.deepest))) (unsigned_of (number_bytes 2 (pos p.pages)))) (quad_again p.widest q.1.1.1.1.1.0)
    ∙ ap (λ x. postamble p.back p.num p.den p.mag p.tallest p.widest x (unsigned_of (number_bytes 2 (pos p.pages)))) (pair_again p.deepest h.2)
    ∙ ap (λ x. postamble p.back p.num p.den p.mag p.tallest p.widest p.deepest x) (pair_again p.pages h.3)

-- ---- an opcode that holds a small number

small_set : (m : ℕ) → m ≤ 127 → command_of (m ∷ []) ≡ Set (pos m)
small_set m h = rw (le-leb m 127 h) refl

small_font : (m : ℕ) → m ≤ 63 → command_of ((171 + m) ∷ []) ≡ Font (pos m)
small_font m h =
    let back : 171 + m - 171 ≡ m = omega arith in
    rw (lt-leb (171 + m) 127 (omega arith), lt-leb (171 + m) 131 (omega arith), lt-leb (171 + m) 132 (omega arith), lt-leb (171 + m) 136 (omega arith), lt-leb (171 + m) 137 (omega arith), lt-leb (171 + m) 138 (omega arith), lt-leb (171 + m) 139 (omega arith), lt-leb (171 + m) 140 (omega arith), lt-leb (171 + m) 141 (omega arith), lt-leb (171 + m) 142 (omega arith), lt-leb (171 + m) 146 (omega arith), lt-leb (171 + m) 147 (omega arith), lt-leb (171 + m) 151 (omega arith), lt-leb (171 + m) 152 (omega arith), lt-leb (171 + m) 156 (omega arith), lt-leb (171 + m) 160 (omega arith), lt-leb (171 + m) 161 (omega arith), lt-leb (171 + m) 165 (omega arith), lt-leb (171 + m) 166 (omega arith), lt-leb (171 + m) 170 (omega arith), le-leb (171 + m) 234 (omega (arith, h))) (ap (λ (k : ℕ). Font (pos k)) back)

-- ---- the command of each spelling

set_determined : (c : ℤ) (n : ℕ) → n < 4 → command_of (spelling (Set c) (suc n)) ≡ Set (code_value (suc n) c)
set_determined c zero h = refl
set_determined c (suc zero) h = refl
set_determined c (suc (suc zero)) h = refl
set_determined c (suc (suc (suc zero))) h = refl
set_determined c (suc (suc (suc (suc n)))) h = absurd (omega (arith, h))

font_determined : (c : ℤ) (n : ℕ) → n < 4 → command_of (spelling (Font c) (suc n)) ≡ Font (code_value (suc n) c)
font_determined c zero h = refl
font_determined c (suc zero) h = refl
font_determined c (suc (suc zero)) h = refl
font_determined c (suc (suc (suc zero))) h = refl
font_determined c (suc (suc (suc (suc n)))) h = absurd (omega (arith, h))

determined : (c : DviCommand) (n : ℕ) → HasWidth c n → command_of (spelling c n) ≡ c
determined (Set (pos m)) zero h =
    let same : 0 + m ≡ m = omega arith in
    ap (λ (k : ℕ). command_of (k ∷ [])) same ∙ small_set m h
determined (Set (negsuc m)) zero h = elim h [ ]
determined (Set c) (suc n) h = let w = wide (suc n) c h in set_determined c n w.1 ∙ ap Set (code_again (suc n) c h)
determined (Put c) n h =
    let w = wide n c h in
    by_width (λ k. command_of (spelling (Put c) k) ≡ Put (code_value k c)) refl refl refl refl n w.0 w.1 ∙ ap Put (code_again n c h)
determined (SetRule a b) n h = rule_again SetRule a b h.1 h.2
determined (PutRule a b) n h = rule_again PutRule a b h.1 h.2
determined Nop n h = refl
determined (Bop counts back) n h = bop_again counts back h.1 h.2 h.3
determined Eop n h = refl
determined Push n h = refl
determined Pop n h = refl
determined W0 n h = refl
determined X0 n h = refl
determined Y0 n h = refl
determined Z0 n h = refl
determined (Right b) n h =
    by_width (λ k. command_of (spelling (Right b) k) ≡ Right (signed_of (number_bytes k b))) refl refl refl refl n h.0 h.1 ∙ ap Right (signed_is_read_again n b h.0 h.1 h.2)
determined (W b) n h =
    by_width (λ k. command_of (spelling (W b) k) ≡ W (signed_of (number_bytes k b))) refl refl refl refl n h.0 h.1 ∙ ap W (signed_is_read_again n b h.0 h.1 h.2)
determined (X b) n h =
    by_width (λ k. command_of (spelling (X b) k) ≡ X (signed_of (number_bytes k b))) refl refl refl refl n h.0 h.1 ∙ ap X (signed_is_read_again n b h.0 h.1 h.2)
determined (Down b) n h =
    by_width (λ k. command_of (spelling (Down b) k) ≡ Down (signed_of (number_bytes k b))) refl refl refl refl n h.0 h.1 ∙ ap Down (signed_is_read_again n b h.0 h.1 h.2)
determined (Y b) n h =
    by_width (λ k. command_of (spelling (Y b) k) ≡ Y (signed_of (number_bytes k b))) refl refl refl refl n h.0 h.1 ∙ ap Y (signed_is_read_again n b h.0 h.1 h.2)
determined (Z b) n h =
    by_width (λ k. command_of (spelling (Z b) k) ≡ Z (signed_of (number_bytes k b))) refl refl refl refl n h.0 h.1 ∙ ap Z (signed_is_read_again n b h.0 h.1 h.2)
determined (Font (pos m)) zero h = small_font m h
determined (Font (negsuc m)) zero h = elim h [ ]
determined (Font c) (suc n) h = let w = wide (suc n) c h in font_determined c n w.1 ∙ ap Font (code_again (suc n) c h)
determined (Special text) n h =
    let w = wide n (pos (length text)) h in
    by_width (λ k. command_of (spelling (Special text) k) ≡ Special text) refl refl refl refl n w.0 w.1
determined (Define d) n h =
    let w = wide n d.number h.0 in
    by_width (λ k. command_of (spelling (Define d) k) ≡ made (code_value k d.number) (unsigned_of (number_bytes 4 (pos d.check))) (signed_of (quad d.size)) (signed_of (quad d.design)) d.area d.name) refl refl refl refl n w.0 w.1
    ∙ define_again d n h
determined (Pre p) n h = pre_again p h.2 h.3 h.4
determined (Post p) n h = post_again p (refl, h.1, h.2, h.3)
determined (PostPost q id) n h = ap (λ x. PostPost x id) (quad_again q h.1)

pub spelling_determines_the_command : SpellingDeterminesTheCommand
spelling_determines_the_command c d bytes hc hd =
    sym (determined c hc.0 hc.1) ∙ ap command_of (sym hc.2 ∙ hd.2) ∙ determined d hd.0 hd.1

pub determined_by_bytes : (c : DviCommand) (bytes : List ℕ) → Spells c bytes → c ≡ command_of bytes
determined_by_bytes c bytes h = sym (determined c h.0 h.1) ∙ ap command_of (sym h.2)
