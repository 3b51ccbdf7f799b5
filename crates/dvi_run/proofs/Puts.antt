-- Texts that are put one after another.
use Rattle.std.proofs.Common.{◌≡◌, ◌++◌, ℕ, List, [], sym, subst, append_assoc, append-nil, Option}
use Rattle.outside.specs.Gather.{Gathers}
use Rattle.outside.specs.declared.gather.Gather.{Gather}
use Rattle.run_report.specs.Puts.{Puts}

pub puts_none : {a : Gather} {w : Option (List ℕ)} {f : ℕ} → Puts a a w w f f []
puts_none {a} {w} {f} = record { puts = λ start count text held. subst (λ (t : List ℕ). Gathers start count a w f t) (sym (append-nil text)) held }

pub puts_twice : {a b c : Gather} {w x y : Option (List ℕ)} {f g h : ℕ} {s t : List ℕ} → Puts a b w x f g s → Puts b c x y g h t → Puts a c w y f h (s ++ t)
puts_twice {a} {b} {c} {w} {x} {y} {f} {g} {h} {s} {t} p q = record {
  puts = λ start count text held. subst (λ (u : List ℕ). Gathers start count c y h u) (append_assoc text s t) (q.puts start count (text ++ s) (p.puts start count text held));
}

pub puts_as : {a b : Gather} {w x : Option (List ℕ)} {f g : ℕ} {s t : List ℕ} → s ≡ t → Puts a b w x f g s → Puts a b w x f g t
puts_as {a} {b} {w} {x} {f} {g} same p = subst (λ (u : List ℕ). Puts a b w x f g u) same p
