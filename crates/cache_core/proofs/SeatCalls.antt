-- The own calls of a seat, and the keys that it asked for.
use Rattle.std.proofs.Common.{◌≡◌, inl, inr, eqb, List, [], ◌∷◌, ◌++◌, refl, sym, ap, ◌∙◌, subst, append_assoc, eq-eqb}
use Rattle.std.proofs.lemmas.List.Elements.{filter-append}
use Rattle.outside.specs.declared.keys.FontKey.{FontKey}
use Rattle.cache_core.specs.declared.calls.Call.{Call}
use Rattle.cache_core.specs.declared.calls.Done.{Done}
use Rattle.cache_core.specs.Histories.{IsAnswer, SeatCalls, look_of, looks}
use Rattle.cache_core.specs.Laws.{OwnsAreJoined, OwnsAreHistory, KeysAreLooks, PrefixesHaveCalls, CallsAreJoined}

pub owns_are_joined : OwnsAreJoined
owns_are_joined seat xs ys = filter-append (λ (c : Call). eqb c.seat seat) xs ys

pub owns_are_history : OwnsAreHistory
owns_are_history seat [] all = refl
owns_are_history seat (c ∷ calls) all = rw (eq-eqb c.seat seat all.0) (ap (λ l. c ∷ l) (owns_are_history seat calls all.1))

looks_append : (xs ys : List Call) → looks (xs ++ ys) ≡ looks xs ++ looks ys
looks_append [] ys = refl
looks_append (c ∷ xs) ys = ap (λ l. look_of c.key c.done ++ l) (looks_append xs ys) ∙ sym (append_assoc (look_of c.key c.done) (looks xs) (looks ys))

-- an answer is one look for its key
one_look : (k : FontKey) (calls : List Call) → IsAnswer k calls → looks calls ≡ k ∷ []
one_look k calls a = elim a [
  | inl one ↦
      let c : Call = one.0 in
      ap looks one.1 ∙ (elim one.3 [
        | inl hit ↦ ap (λ (d : Done). look_of c.key d ++ []) hit
        | inr busy ↦ ap (λ (d : Done). look_of c.key d ++ []) busy
      ] ∙ ap (λ (j : FontKey). j ∷ []) one.2)
  | inr two ↦
      let c : Call = two.0 in
      let d : Call = two.1 in
      let none : look_of d.key d.done ≡ [] = elim two.6 [ inl filled ↦ ap (look_of d.key) filled.3 | inr released ↦ ap (look_of d.key) released ] in
      ap looks two.2 ∙ (ap (λ (x : Done). look_of c.key x ++ (look_of d.key d.done ++ [])) two.4
      ∙ (ap (λ (l : List FontKey). c.key ∷ (l ++ [])) none ∙ ap (λ (j : FontKey). j ∷ []) two.3))
]

pub keys_are_looks : KeysAreLooks
keys_are_looks [] calls none = ap looks none
keys_are_looks (k ∷ keys) calls a =
    ap looks a.2 ∙ (looks_append a.0 a.1 ∙ (ap (λ l. l ++ looks a.1) (one_look k a.0 a.3) ∙ ap (λ l. k ∷ l) (keys_are_looks keys a.1 a.4)))

pub prefixes_have_calls : PrefixesHaveCalls
prefixes_have_calls [] after calls a = ([], calls, refl, refl, a)
prefixes_have_calls (k ∷ keys) after calls a =
    let r = prefixes_have_calls keys after a.1 a.4 in
    (a.0 ++ r.0, r.1, a.2 ∙ (ap (λ l. a.0 ++ l) r.2 ∙ sym (append_assoc a.0 r.0 r.1)), (a.0, r.0, refl, a.3, r.3), r.4)

pub calls_are_joined : CallsAreJoined
calls_are_joined [] after first others none b = subst (λ l. SeatCalls after (l ++ others)) (sym none) b
calls_are_joined (k ∷ keys) after first others a b =
    (a.0, a.1 ++ others, ap (λ l. l ++ others) a.2 ∙ append_assoc a.0 a.1 others, a.3, calls_are_joined keys after a.1 others a.4 b)
