-- A trace read back: each line gives its call, as the line shows it.
use Rattle.std.proofs.Common.{◌≡◌, ◌∙◌, ℕ, ◌+◌, ◌^◌, ◌<◌, eqb, true, false, cond, List, [], ◌∷◌, ◌++◌, codes, decimal, map, get_or, refl, sym, ap, ap₂, append_assoc, arith}
use Rattle.std.specs.List.{All, flat_map}
use Rattle.std.specs.Str.Parse.{digits_value}
use Rattle.std.proofs.lemmas.Fmt.{decimal_is_IsNumeral}
use Rattle.std.proofs.lemmas.List.Elements.{All-tail}
use Rattle.outside.specs.declared.keys.FontKey.{FontKey}
use Rattle.cache_core.specs.declared.calls.Call.{Call}
use Rattle.cache_core.specs.declared.calls.Done.{Done}
use Rattle.cache_core.specs.declared.calls.Done.TheVariants.{Hit, Claimed, Busy, Filled, Released}
use Rattle.run_report.specs.Keys.{key_text, shown_byte}
use Rattle.run_report.specs.Trace.{entry_line, further_text, trace_text}
use Rattle.run_report.specs.Laws.{AreKeys, HasKeys, IsCall, IsKey, LinesDetermineCalls, TracesDetermineCalls, shown, shown_key}
use Rattle.run_report.proofs.Words.{AreWords, IsWord, decimal_is_word, line_is_some, line_of, line_determines, name_is_word, visible, word_append}
use Rattle.run_report.proofs.Commas.{before_comma, decimal_alone, decimal_before}

-- ---- the words of a line, after the seat

abbrev key_words : FontKey → List (List ℕ) → List (List ℕ)
key_words k more = map shown_byte k.name ∷ decimal k.size ∷ decimal k.design ∷ more

-- a key and further ones, with a comma before each of these
abbrev keys_words : FontKey → List FontKey → List (List ℕ)
keys_words k [] = key_words k []
keys_words k (j ∷ keys) = map shown_byte k.name ∷ decimal k.size ∷ (decimal k.design ++ codes ",") ∷ keys_words j keys

abbrev evicted_words : List FontKey → List (List ℕ)
evicted_words [] = codes "-" ∷ []
evicted_words (k ∷ keys) = keys_words k keys

abbrev act_words : FontKey → Done → List (List ℕ)
act_words k Hit = codes "look" ∷ key_words k (codes "hit" ∷ [])
act_words k Claimed = codes "look" ∷ key_words k (codes "claimed" ∷ [])
act_words k Busy = codes "look" ∷ key_words k (codes "busy" ∷ [])
act_words k (Filled w true gone) = codes "fill" ∷ key_words k (codes "evict" ∷ evicted_words gone)
act_words k (Filled w false gone) = codes "fill" ∷ key_words k (codes "not" ∷ codes "kept" ∷ [])
act_words k Released = codes "release" ∷ key_words k []

-- the line is made of them
keys_are : (w : List ℕ) (k : FontKey) (keys : List FontKey) (rest : List ℕ) → w ++ 32 ∷ (key_text k ++ flat_map further_text keys) ++ 10 ∷ rest ≡ line_of w (keys_words k keys) rest
keys_are w k [] rest = simp append_assoc refl
keys_are w k (j ∷ keys) rest =
    let more = keys_are (decimal k.design ++ codes ",") j keys rest in
    let left : w ++ 32 ∷ (key_text k ++ flat_map further_text (j ∷ keys)) ++ 10 ∷ rest
    ≡ w ++ 32 ∷ (map shown_byte k.name ++ 32 ∷ (decimal k.size ++ 32 ∷ ((decimal k.design ++ codes ",") ++ 32 ∷ (key_text j ++ flat_map further_text keys) ++ 10 ∷ rest))) =
    simp append_assoc refl in
    left ∙ ap (λ (text : List ℕ). w ++ 32 ∷ (map shown_byte k.name ++ 32 ∷ (decimal k.size ++ 32 ∷ text))) more

evicted_are : (seat : ℕ) (k : FontKey) (gone : List FontKey) (w : ℕ) (rest : List ℕ) → entry_line (record { seat = seat; key = k; done = Filled w true gone }) ++ rest
    ≡ line_of (decimal seat) (act_words k (Filled w true gone)) rest
evicted_are seat k [] w rest = simp append_assoc refl
evicted_are seat k (j ∷ keys) w rest =
    let more = keys_are (codes "evict") j keys rest in
    let left : entry_line (record { seat = seat; key = k; done = Filled w true (j ∷ keys) }) ++ rest
    ≡ decimal seat ++ 32 ∷ (codes "fill" ++ 32 ∷ (map shown_byte k.name ++ 32 ∷ (decimal k.size ++ 32 ∷ (decimal k.design ++ 32 ∷ (codes "evict" ++ 32 ∷ (key_text j ++ flat_map further_text keys) ++ 10 ∷ rest))))) =
    simp append_assoc refl in
    left ∙ ap (λ (text : List ℕ). decimal seat ++ 32 ∷ (codes "fill" ++ 32 ∷ (map shown_byte k.name ++ 32 ∷ (decimal k.size ++ 32 ∷ (decimal k.design ++ 32 ∷ text))))) more

line_is : (seat : ℕ) (k : FontKey) (d : Done) (rest : List ℕ) → entry_line (record { seat = seat; key = k; done = d }) ++ rest ≡ line_of (decimal seat) (act_words k d) rest
line_is seat k Hit rest = simp append_assoc refl
line_is seat k Claimed rest = simp append_assoc refl
line_is seat k Busy rest = simp append_assoc refl
line_is seat k (Filled w true gone) rest = evicted_are seat k gone w rest
line_is seat k (Filled w false gone) rest = simp append_assoc refl
line_is seat k Released rest = simp append_assoc refl

number_is_word : (n : ℕ) → n < 2 ^ 32 → IsWord (decimal n)
number_is_word n small = decimal_is_word n (omega arith)

key_is_words : (k : FontKey) (more : List (List ℕ)) → IsKey k → AreWords more → AreWords (key_words k more)
key_is_words k more fits words = (name_is_word k.name, (number_is_word k.size fits.0, (number_is_word k.design fits.1, words)))

keys_are_words : (k : FontKey) (keys : List FontKey) → IsKey k → AreKeys keys → AreWords (keys_words k keys)
keys_are_words k [] fits more = key_is_words k [] fits tt
keys_are_words k (j ∷ keys) fits more = (
  name_is_word k.name,
  (
    number_is_word k.size fits.0,
    (
      word_append (decimal k.design) (codes ",") (number_is_word k.design fits.1) (visible (codes ",") refl),
      keys_are_words j keys more.0 more.1,
    ),
  ),
)

evicted_are_words : (gone : List FontKey) → AreKeys gone → AreWords (evicted_words gone)
evicted_are_words [] fits = (visible (codes "-") refl, tt)
evicted_are_words (k ∷ keys) fits = keys_are_words k keys fits.0 fits.1

act_is_words : (k : FontKey) (d : Done) → IsKey k → HasKeys d → AreWords (act_words k d)
act_is_words k Hit fits done = (visible (codes "look") refl, key_is_words k (codes "hit" ∷ []) fits (visible (codes "hit") refl, tt))
act_is_words k Claimed fits done = (visible (codes "look") refl, key_is_words k (codes "claimed" ∷ []) fits (visible (codes "claimed") refl, tt))
act_is_words k Busy fits done = (visible (codes "look") refl, key_is_words k (codes "busy" ∷ []) fits (visible (codes "busy") refl, tt))
act_is_words k (Filled w true gone) fits done = (visible (codes "fill") refl, key_is_words k (codes "evict" ∷ evicted_words gone) fits (visible (codes "evict") refl, evicted_are_words gone done))
act_is_words k (Filled w false gone) fits done = (visible (codes "fill") refl, key_is_words k (codes "not" ∷ codes "kept" ∷ []) fits (visible (codes "not") refl, (visible (codes "kept") refl, tt)))
act_is_words k Released fits done = (visible (codes "release") refl, key_is_words k [] fits tt)

-- ---- the call of a line's words

letter : List (List ℕ) → ℕ → ℕ
letter ws i = get_or (get_or ws i []) 0 0

number : List (List ℕ) → ℕ → ℕ
number ws i = digits_value 10 (get_or ws i [])

read_key : List (List ℕ) → ℕ → FontKey
read_key ws i = record { area = 0; name = get_or ws i []; size = number ws (i + 1); design = number ws (i + 2) }

-- keys of three words each, the last of which may have a comma behind it
read_keys : List (List ℕ) → List FontKey
read_keys (name ∷ size ∷ design ∷ more) = record { area = 0; name = name; size = digits_value 10 size; design = digits_value 10 (before_comma design) } ∷ read_keys more
read_keys _ = []

after_five : List (List ℕ) → List (List ℕ)
after_five (a ∷ b ∷ c ∷ d ∷ e ∷ more) = more
after_five _ = []

read_done : List (List ℕ) → Done
read_done ws =
    cond (eqb (letter ws 0) 114) Released
    (cond (eqb (letter ws 0) 102) (cond (eqb (letter ws 4) 110) (Filled 0 false []) (Filled 0 true (read_keys (after_five ws))))
    (cond (eqb (letter ws 4) 104) Hit (cond (eqb (letter ws 4) 99) Claimed Busy)))

read_call : List ℕ → List (List ℕ) → Call
read_call seat ws = record { seat = digits_value 10 seat; key = read_key ws 1; done = read_done ws }

value_of : (n : ℕ) → n < 2 ^ 32 → digits_value 10 (decimal n) ≡ n
value_of n small = let numeral = decimal_is_IsNumeral n (omega arith) in numeral.1

keys_read : (k : FontKey) (keys : List FontKey) → IsKey k → AreKeys keys → read_keys (keys_words k keys) ≡ map shown_key (k ∷ keys)
unfolding read_keys
keys_read k [] fits more = simp (value_of k.size fits.0, decimal_alone k.design fits.1, value_of k.design fits.1) refl
keys_read k (j ∷ keys) fits more = simp (value_of k.size fits.0, decimal_before k.design fits.1, value_of k.design fits.1, keys_read j keys more.0 more.1) refl

evicted_read : (gone : List FontKey) → AreKeys gone → read_keys (evicted_words gone) ≡ map shown_key gone
unfolding read_keys
evicted_read [] fits = refl
evicted_read (k ∷ keys) fits = keys_read k keys fits.0 fits.1

call_reads : (seat : ℕ) (k : FontKey) (d : Done) → seat < 2 ^ 32 → IsKey k → HasKeys d
    → read_call (decimal seat) (act_words k d) ≡ shown (record { seat = seat; key = k; done = d })
unfolding letter number read_key read_done read_call after_five
call_reads seat k Hit small fits done = simp (value_of seat small, value_of k.size fits.0, value_of k.design fits.1) refl
call_reads seat k Claimed small fits done = simp (value_of seat small, value_of k.size fits.0, value_of k.design fits.1) refl
call_reads seat k Busy small fits done = simp (value_of seat small, value_of k.size fits.0, value_of k.design fits.1) refl
call_reads seat k (Filled w true gone) small fits done = simp (value_of seat small, value_of k.size fits.0, value_of k.design fits.1, evicted_read gone done) refl
call_reads seat k (Filled w false gone) small fits done = simp (value_of seat small, value_of k.size fits.0, value_of k.design fits.1) refl
call_reads seat k Released small fits done = simp (value_of seat small, value_of k.size fits.0, value_of k.design fits.1) refl

-- ---- lines and traces

lines_determine_more : (a b : Call) (rest after : List ℕ) → IsCall a → IsCall b → entry_line a ++ rest ≡ entry_line b ++ after → (shown a ≡ shown b) × (rest ≡ after)
lines_determine_more a b rest after is_a is_b same =
    let as_words = sym (line_is a.seat a.key a.done rest) ∙ same ∙ line_is b.seat b.key b.done after in
    let parts = line_determines (decimal a.seat) (act_words a.key a.done) (decimal b.seat) (act_words b.key b.done) rest after
    (number_is_word a.seat is_a.seat) (act_is_words a.key a.done is_a.key is_a.done)
    (number_is_word b.seat is_b.seat) (act_is_words b.key b.done is_b.key is_b.done) as_words in
    (sym (call_reads a.seat a.key a.done is_a.seat is_a.key is_a.done) ∙ ap₂ read_call parts.0 parts.1 ∙ call_reads b.seat b.key b.done is_b.seat is_b.key is_b.done, parts.2)

pub lines_determine_calls : LinesDetermineCalls
lines_determine_calls a b is_a is_b same =
    let parts = lines_determine_more a b [] [] is_a is_b (ap (λ (text : List ℕ). text ++ []) same) in
    parts.0

head_is : (P : Call → Type 0) (x : Call) (xs : List Call) → All P (x ∷ xs) → P x
head_is P x xs all = all 0 x (omega arith)

no_line : (x : Call) (rest : List ℕ) → [] ≡ entry_line x ++ rest → ⊥
no_line x rest same = line_is_some (decimal x.seat) (act_words x.key x.done) rest (same ∙ line_is x.seat x.key x.done rest)

pub traces_determine_calls : TracesDetermineCalls
traces_determine_calls [] [] are_xs are_ys same = refl
traces_determine_calls [] (y ∷ ys) are_xs are_ys same = absurd (no_line y (trace_text ys) same)
traces_determine_calls (x ∷ xs) [] are_xs are_ys same = absurd (no_line x (trace_text xs) (sym same))
traces_determine_calls (x ∷ xs) (y ∷ ys) are_xs are_ys same =
    let parts = lines_determine_more x y (trace_text xs) (trace_text ys) (head_is IsCall x xs are_xs) (head_is IsCall y ys are_ys) same in
    let more = traces_determine_calls xs ys (All-tail IsCall x xs are_xs) (All-tail IsCall y ys are_ys) parts.1 in
    ap₂ (λ (z : Call) (zs : List Call). z ∷ zs) parts.0 more
