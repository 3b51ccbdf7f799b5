-- What pushes and pops leave of the saved registers.
use Rattle.std.proofs.Common.{◌≡◌, ◌∙◌, ℕ, ◌+◌, ◌≤◌, suc, Bool, true, false, cond, arith, Result, Ok, Err, List, [], ◌∷◌, ◌++◌, length, refl, sym, ap}
use Rattle.std.specs.Prelude.{nat_le, IsTrue}
use Rattle.std.proofs.lemmas.Bool.Decides.{nat_tests}
use Rattle.std.proofs.lemmas.List.Sums.{sum_by-cons}
use Rattle.pixel_round.specs.Pixels.{Fraction}
use Rattle.drift_rules.specs.declared.flat.Registers.{Registers}
use Rattle.drift_rules.specs.declared.faults.PenFault.{PenFault}
use Rattle.drift_rules.specs.declared.faults.PenFault.TheVariants.{Overflow, StackEmpty, StackDeep}
use Rattle.drift_rules.specs.Position.{State, FlatCommand, Leads, Step, state_after, pop_registers, Skip, Char, Rule, Right, W, X, Down, Y, Z, W0, X0, Y0, Z0, Push, Pop, Enter, Leave, Advance}
use Rattle.drift_rules.specs.Limits.{MAX_SAVED}
use Rattle.drift_rules.specs.Stack.{is_push, is_pop, pushes, pops, PopsItsOwn, IsBalanced, PopsGiveBack, PacketsMoveAsCharacters, SavedStay, FewAreSaved, EmptyAtAPop, DeepAtAPush}
use Rattle.drift_rules.proofs.Near.{held, saved_is}

abbrev saved_of : State → List Registers
saved_of s = s.saved

-- ---- one command

-- what a push or a packet's beginning leaves saved
pushed : (c : Fraction) (s t : State) (f : FlatCommand) → IsTrue (is_push f) → Step c s f t → s.now ∷ s.saved ≡ t.saved
pushed c s t Push push e = ap saved_of (saved_is _ _ t e)
pushed c s t Enter push e = ap saved_of (saved_is _ _ t e)
pushed c s t _ push e = absurd cc

-- a pop or a packet's end takes the last saved set
taken : (c : Fraction) (s t : State) (f : FlatCommand) → IsTrue (is_pop f) → Step c s f t → pop_registers s.saved ≡ Ok t
taken c s t Pop pop e = e
taken c s t Leave pop e = e
taken c s t _ pop e = absurd cc

popped : (saved : List Registers) (t : State) → pop_registers saved ≡ Ok t → saved ≡ t.now ∷ t.saved
popped [] t e = absurd cc
popped (r ∷ saved) t e =
    let made : State = record { now = r; saved = saved } in
    let was : made ≡ t = cc in
    ap (λ (x : State). x.now ∷ x.saved) was

same_saved : (b : Bool) (s t : State) → cond b (Ok s) (Err Overflow) ≡ Ok t → t.saved ≡ s.saved
same_saved b s t e = sym (ap saved_of (held b s t e))

pub saved_stays : (c : Fraction) (s t : State) (f : FlatCommand) → is_push f ≡ false → is_pop f ≡ false → Step c s f t → t.saved ≡ s.saved
saved_stays c s t Skip _ _ e = let was : s ≡ t = cc in sym (ap saved_of was)
saved_stays c s t (Char key code width true) _ _ e = let was : s ≡ t = cc in sym (ap saved_of was)
saved_stays c s t (Char key code width false) _ _ e = same_saved _ _ t e
saved_stays c s t (Rule height width true) _ _ e = let was : s ≡ t = cc in sym (ap saved_of was)
saved_stays c s t (Rule height width false) _ _ e = same_saved _ _ t e
saved_stays c s t (Right p space) _ _ e = same_saved _ _ t e
saved_stays c s t (W p space) _ _ e = same_saved _ _ t e
saved_stays c s t (X p space) _ _ e = same_saved _ _ t e
saved_stays c s t (W0 space) _ _ e = same_saved _ _ t e
saved_stays c s t (X0 space) _ _ e = same_saved _ _ t e
saved_stays c s t (Down p space) _ _ e = same_saved _ _ t e
saved_stays c s t (Y p space) _ _ e = same_saved _ _ t e
saved_stays c s t (Z p space) _ _ e = same_saved _ _ t e
saved_stays c s t (Y0 space) _ _ e = same_saved _ _ t e
saved_stays c s t (Z0 space) _ _ e = same_saved _ _ t e
saved_stays c s t Push p _ e = absurd cc
saved_stays c s t Pop _ q e = absurd cc
saved_stays c s t Enter p _ e = absurd cc
saved_stays c s t Leave _ q e = absurd cc
saved_stays c s t (Advance width) _ _ e = same_saved _ _ t e

-- ---- a list of commands

-- no beginning of it has more than n pops more than pushes
abbrev PopsAtMost : ℕ → List FlatCommand → Type 0
PopsAtMost n flats = (first rest : List FlatCommand) → flats ≡ first ++ rest → pops first ≤ pushes first + n

pushes_cons : (f : FlatCommand) (flats : List FlatCommand) → pushes (f ∷ flats) ≡ cond (is_push f) 1 0 + pushes flats
pushes_cons f flats = sum_by-cons (λ x. cond (is_push x) 1 0) f flats

pops_cons : (f : FlatCommand) (flats : List FlatCommand) → pops (f ∷ flats) ≡ cond (is_pop f) 1 0 + pops flats
pops_cons f flats = sum_by-cons (λ x. cond (is_pop x) 1 0) f flats

-- how many there are with one command more
record Counted (f : FlatCommand) (flats : List FlatCommand) (push pop : ℕ) : Type 0 where
  pub pushes : pushes (f ∷ flats) ≡ push + pushes flats
  pub pops : pops (f ∷ flats) ≡ pop + pops flats

counted_push : (f : FlatCommand) (flats : List FlatCommand) → IsTrue (is_push f) → Counted f flats 1 0
counted_push Push flats push = record { pushes = pushes_cons Push flats; pops = pops_cons Push flats }
counted_push Enter flats push = record { pushes = pushes_cons Enter flats; pops = pops_cons Enter flats }
counted_push _ flats push = absurd cc

counted_pop : (f : FlatCommand) (flats : List FlatCommand) → IsTrue (is_pop f) → Counted f flats 0 1
counted_pop Pop flats pop = record { pushes = pushes_cons Pop flats; pops = pops_cons Pop flats }
counted_pop Leave flats pop = record { pushes = pushes_cons Leave flats; pops = pops_cons Leave flats }
counted_pop _ flats pop = absurd cc

counted_other : (f : FlatCommand) (flats : List FlatCommand) → is_push f ≡ false → is_pop f ≡ false → Counted f flats 0 0
counted_other f flats p q = record {
  pushes = pushes_cons f flats ∙ ap (λ (b : Bool). cond b 1 0 + pushes flats) p;
  pops = pops_cons f flats ∙ ap (λ (b : Bool). cond b 1 0 + pops flats) q;
}

after_push : (n : ℕ) (f : FlatCommand) (flats : List FlatCommand) → IsTrue (is_push f) → PopsAtMost n (f ∷ flats) → PopsAtMost (suc n) flats
after_push n f flats push h first rest e =
    let all = h (f ∷ first) rest (ap (λ (l : List FlatCommand). f ∷ l) e) in
    let many = counted_push f first push in
    omega (arith, all, many.pushes, many.pops)

after_pop : (n : ℕ) (f : FlatCommand) (flats : List FlatCommand) → IsTrue (is_pop f) → PopsAtMost (suc n) (f ∷ flats) → PopsAtMost n flats
after_pop n f flats pop h first rest e =
    let all = h (f ∷ first) rest (ap (λ (l : List FlatCommand). f ∷ l) e) in
    let many = counted_pop f first pop in
    omega (arith, all, many.pushes, many.pops)

after_other : (n : ℕ) (f : FlatCommand) (flats : List FlatCommand) → is_push f ≡ false → is_pop f ≡ false → PopsAtMost n (f ∷ flats) → PopsAtMost n flats
after_other n f flats p q h first rest e =
    let all = h (f ∷ first) rest (ap (λ (l : List FlatCommand). f ∷ l) e) in
    let many = counted_other f first p q in
    omega (arith, all, many.pushes, many.pops)

-- of the saved sets those below stay, and above them there is one more for each push and one less
-- for each pop
pub record Stays (t : State) (flats : List FlatCommand) (above below : List Registers) : Type 0 where
  pub more : List Registers
  pub is : t.saved ≡ more ++ below
  pub many : length more + pops flats ≡ pushes flats + length above

stays_by_other : (t : State) (f : FlatCommand) (flats : List FlatCommand) (above below : List Registers) → is_push f ≡ false → is_pop f ≡ false → Stays t flats above below → Stays t (f ∷ flats) above below
stays_by_other t f flats above below p q r =
    let many = counted_other f flats p q in
    record { more = r.more; is = r.is; many = omega (arith, r.many, many.pushes, many.pops) }

no_pop : (f : FlatCommand) (flats : List FlatCommand) → IsTrue (is_pop f) → PopsAtMost 0 (f ∷ flats) → ⊥
no_pop Pop flats pop h = omega (arith, h (Pop ∷ []) flats refl)
no_pop Leave flats pop h = omega (arith, h (Leave ∷ []) flats refl)
no_pop _ flats pop h = absurd cc

tail_is : (r q : Registers) (a b : List Registers) → r ∷ a ≡ q ∷ b → a ≡ b
tail_is r q a b e = cc

-- the same, where a push, or a pop, stands first
stays_by_push : (t : State) (f : FlatCommand) (flats : List FlatCommand) (r : Registers) (above below : List Registers) → IsTrue (is_push f) → Stays t flats (r ∷ above) below
    → Stays t (f ∷ flats) above below
stays_by_push t f flats r above below push stays =
    let many = counted_push f flats push in
    record { more = stays.more; is = stays.is; many = omega (arith, stays.many, many.pushes, many.pops) }

stays_by_pop : (t : State) (f : FlatCommand) (flats : List FlatCommand) (q : Registers) (above below : List Registers) → IsTrue (is_pop f) → Stays t flats above below
    → Stays t (f ∷ flats) (q ∷ above) below
stays_by_pop t f flats q above below pop stays =
    let many = counted_pop f flats pop in
    record { more = stays.more; is = stays.is; many = omega (arith, stays.many, many.pushes, many.pops) }

on_push : (c : Fraction) (s mid : State) (f : FlatCommand) (above below : List Registers) → IsTrue (is_push f) → s.saved ≡ above ++ below → Step c s f mid
    → mid.saved ≡ (s.now ∷ above) ++ below
on_push c s mid f above below push e step = sym (pushed c s mid f push step) ∙ ap (λ (l : List Registers). s.now ∷ l) e

on_pop : (c : Fraction) (s mid : State) (f : FlatCommand) (q : Registers) (above below : List Registers) → IsTrue (is_pop f) → s.saved ≡ (q ∷ above) ++ below → Step c s f mid
    → mid.saved ≡ above ++ below
on_pop c s mid f q above below pop e step =
    tail_is mid.now q mid.saved (above ++ below) (sym (popped s.saved mid (taken c s mid f pop step)) ∙ e)

along : (c : Fraction) (s t : State) (flats : List FlatCommand) (above below : List Registers) → s.saved ≡ above ++ below → PopsAtMost (length above) flats → Leads c s flats t → Stays t flats above below
along c s t [] above below e h leads = record { more = above; is = ap saved_of leads ∙ e; many = omega arith }
along c s t (Push ∷ flats) above below e h (mid, step, rest) =
    stays_by_push t Push flats s.now above below refl
    (along c mid t flats (s.now ∷ above) below (on_push c s mid Push above below refl e step) (after_push (length above) Push flats refl h) rest)
along c s t (Enter ∷ flats) above below e h (mid, step, rest) =
    stays_by_push t Enter flats s.now above below refl
    (along c mid t flats (s.now ∷ above) below (on_push c s mid Enter above below refl e step) (after_push (length above) Enter flats refl h) rest)
along c s t (Pop ∷ flats) [] below e h leads = absurd (no_pop Pop flats refl h)
along c s t (Pop ∷ flats) (q ∷ above) below e h (mid, step, rest) =
    stays_by_pop t Pop flats q above below refl
    (along c mid t flats above below (on_pop c s mid Pop q above below refl e step) (after_pop (length above) Pop flats refl h) rest)
along c s t (Leave ∷ flats) [] below e h leads = absurd (no_pop Leave flats refl h)
along c s t (Leave ∷ flats) (q ∷ above) below e h (mid, step, rest) =
    stays_by_pop t Leave flats q above below refl
    (along c mid t flats above below (on_pop c s mid Leave q above below refl e step) (after_pop (length above) Leave flats refl h) rest)
along c s t (f ∷ flats) above below e h (mid, step, rest) =
    stays_by_other t f flats above below refl refl (along c mid t flats above below (saved_stays c s mid f refl refl step ∙ e) (after_other (length above) f flats refl refl h) rest)

own_at_most : (flats : List FlatCommand) → PopsItsOwn flats → PopsAtMost 0 flats
own_at_most flats own first rest e = omega (arith, own first rest e)

pub saved_stay : SavedStay
saved_stay c s t flats own leads =
    let r = along c s t flats [] s.saved refl (own_at_most flats own) leads in
    (r.more, r.is)

pub record Parted (c : Fraction) (s : State) (a b : List FlatCommand) (t : State) : Type 0 where
  pub mid : State
  pub first : Leads c s a mid
  pub rest : Leads c mid b t

parted : (c : Fraction) (s t : State) (a b : List FlatCommand) → Leads c s (a ++ b) t → Parted c s a b t
parted c s t [] b leads = record { mid = s; first = refl; rest = leads }
parted c s t (f ∷ a) b (mid, step, leads) =
    let p = parted c mid t a b leads in
    record { mid = p.mid; first = (mid, step, p.first); rest = p.rest }

none_more : (more below : List Registers) → length more ≡ 0 → more ++ below ≡ below
none_more [] below e = refl
none_more (r ∷ more) below e = absurd (omega (arith, e))

balanced_saved : (c : Fraction) (s t : State) (flats : List FlatCommand) → IsBalanced flats → Leads c s flats t → t.saved ≡ s.saved
balanced_saved c s t flats balanced leads =
    let r = along c s t flats [] s.saved refl (own_at_most flats balanced.own) leads in
    r.is ∙ none_more r.more s.saved (omega (arith, r.many, balanced.as_many))

abbrev good : State → Result State PenFault
good s = Ok s

same_good : (s t : State) → good s ≡ good t → t ≡ s
same_good s t e = cc

back : (saved : List Registers) (s u : State) → saved ≡ s.now ∷ s.saved → pop_registers saved ≡ Ok u → u ≡ s
back saved s u is e = same_good s u (sym (ap pop_registers is) ∙ e)

given_back : (c : Fraction) (s begun mid u : State) (push pop : FlatCommand) (flats : List FlatCommand) → IsTrue (is_push push) → IsTrue (is_pop pop) → IsBalanced flats
    → Step c s push begun → Leads c begun flats mid → Step c mid pop u → u ≡ s
given_back c s begun mid u push pop flats saves restores balanced first within last =
    let at_push : begun.saved ≡ s.now ∷ s.saved = sym (pushed c s begun push saves first) in
    let below : mid.saved ≡ s.now ∷ s.saved = balanced_saved c begun mid flats balanced within ∙ at_push in
    back mid.saved s u below (taken c mid u pop restores last)

pub pops_give_back : PopsGiveBack
pops_give_back c s t push pop flats saves restores balanced (begun, step, leads) =
    let p = parted c begun t flats (pop ∷ []) leads in
    p.rest.2 ∙ given_back c s begun p.mid p.rest.0 push pop flats saves restores balanced step p.first p.rest.1

pub packets_move_as_characters : PacketsMoveAsCharacters
packets_move_as_characters c s t packet key code width balanced (begun, step, leads) =
    let p = parted c begun t packet (Leave ∷ Advance width ∷ []) leads in
    let is_s : p.rest.0 ≡ s = given_back c s begun p.mid p.rest.0 Enter Leave packet refl refl balanced step p.first p.rest.1 in
    let moved : state_after c s (Advance width) ≡ Ok p.rest.2.0 = rw is_s at p.rest.2.1 in
    moved ∙ ap good (sym p.rest.2.2)

-- ---- the bounds

no_room : (b : Bool) (t : State) → cond b (Err StackDeep) (Ok t) ≡ Err StackDeep → b ≡ true
no_room true t e = refl
no_room false t e = absurd cc

some_room : (b : Bool) (s t : State) → cond b (Err StackDeep) (Ok s) ≡ Ok t → b ≡ false
some_room true s t e = absurd cc
some_room false s t e = refl

few_after : (n : ℕ) → nat_le MAX_SAVED n ≡ false → n + 1 ≤ MAX_SAVED
few_after n e = grind (arith, nat_tests)

many_at : (n : ℕ) → nat_le MAX_SAVED n ≡ true → MAX_SAVED ≤ n
many_at n e = grind (arith, nat_tests)

at_many : (n : ℕ) → MAX_SAVED ≤ n → nat_le MAX_SAVED n ≡ true
at_many n h = grind (arith, nat_tests)

few_pushed : (s t : State) → s.now ∷ s.saved ≡ t.saved → nat_le MAX_SAVED (length s.saved) ≡ false → length t.saved ≤ MAX_SAVED
few_pushed s t added some =
    let long : length s.saved + 1 ≡ length t.saved = omega (arith, ap length added) in
    let room = few_after (length s.saved) some in
    omega (arith, long, room)

few_popped : (s t : State) → length s.saved ≤ MAX_SAVED → s.saved ≡ t.now ∷ t.saved → length t.saved ≤ MAX_SAVED
few_popped s t few popped =
    let long : length s.saved ≡ length t.saved + 1 = omega (arith, ap length popped) in
    omega (arith, long, few)

few_step : (c : Fraction) (s t : State) (f : FlatCommand) → length s.saved ≤ MAX_SAVED → Step c s f t → length t.saved ≤ MAX_SAVED
few_step c s t Push few e = few_pushed s t (pushed c s t Push refl e) (some_room _ _ t e)
few_step c s t Enter few e = few_pushed s t (pushed c s t Enter refl e) (some_room _ _ t e)
few_step c s t Pop few e = few_popped s t few (popped s.saved t e)
few_step c s t Leave few e = few_popped s t few (popped s.saved t e)
few_step c s t f few e =
    let long : length t.saved ≡ length s.saved = ap length (saved_stays c s t f refl refl e) in
    omega (arith, long, few)

few_along : (c : Fraction) (s t : State) (flats : List FlatCommand) → length s.saved ≤ MAX_SAVED → Leads c s flats t → length t.saved ≤ MAX_SAVED
few_along c s t [] few e = omega (arith, ap (λ (x : State). length x.saved) e)
few_along c s t (f ∷ flats) few (mid, step, rest) = few_along c mid t flats (few_step c s mid f few step) rest

pub few_are_saved : FewAreSaved
few_are_saved c t flats leads = few_along c _ t flats (omega arith) leads

-- ---- the faults

overflow_by : (b : Bool) (s : State) (fault : PenFault) → cond b (Ok s) (Err Overflow) ≡ Err fault → fault ≡ Overflow
overflow_by true s fault e = absurd cc
overflow_by false s fault e = cc

goes_on : (s : State) (fault : PenFault) → good s ≡ Err fault → ⊥
goes_on s fault e = cc

-- a command that neither saves nor restores has one fault
pub only_overflow : (c : Fraction) (s : State) (f : FlatCommand) (fault : PenFault) → is_push f ≡ false → is_pop f ≡ false → state_after c s f ≡ Err fault → fault ≡ Overflow
only_overflow c s Skip fault _ _ e = absurd (goes_on s fault e)
only_overflow c s (Char key code width true) fault _ _ e = absurd (goes_on s fault e)
only_overflow c s (Char key code width false) fault _ _ e = overflow_by _ _ fault e
only_overflow c s (Rule height width true) fault _ _ e = absurd (goes_on s fault e)
only_overflow c s (Rule height width false) fault _ _ e = overflow_by _ _ fault e
only_overflow c s (Right p space) fault _ _ e = overflow_by _ _ fault e
only_overflow c s (W p space) fault _ _ e = overflow_by _ _ fault e
only_overflow c s (X p space) fault _ _ e = overflow_by _ _ fault e
only_overflow c s (W0 space) fault _ _ e = overflow_by _ _ fault e
only_overflow c s (X0 space) fault _ _ e = overflow_by _ _ fault e
only_overflow c s (Down p space) fault _ _ e = overflow_by _ _ fault e
only_overflow c s (Y p space) fault _ _ e = overflow_by _ _ fault e
only_overflow c s (Z p space) fault _ _ e = overflow_by _ _ fault e
only_overflow c s (Y0 space) fault _ _ e = overflow_by _ _ fault e
only_overflow c s (Z0 space) fault _ _ e = overflow_by _ _ fault e
only_overflow c s Push fault p _ e = absurd cc
only_overflow c s Pop fault _ q e = absurd cc
only_overflow c s Enter fault p _ e = absurd cc
only_overflow c s Leave fault _ q e = absurd cc
only_overflow c s (Advance width) fault _ _ e = overflow_by _ _ fault e

only_empty : (saved : List Registers) (fault : PenFault) → pop_registers saved ≡ Err fault → (fault ≡ StackEmpty) × (saved ≡ [])
only_empty [] fault e = (cc, refl)
only_empty (r ∷ saved) fault e = absurd (goes_on _ fault e)

only_deep : (b : Bool) (s : State) (fault : PenFault) → cond b (Err StackDeep) (Ok s) ≡ Err fault → fault ≡ StackDeep
only_deep true s fault e = cc
only_deep false s fault e = absurd (goes_on s fault e)

deep_is_empty : StackDeep ≡ StackEmpty → ⊥
deep_is_empty e = cc

empty_is_deep : StackEmpty ≡ StackDeep → ⊥
empty_is_deep e = cc

deep_is_overflow : StackDeep ≡ Overflow → ⊥
deep_is_overflow e = cc

empty_is_overflow : StackEmpty ≡ Overflow → ⊥
empty_is_overflow e = cc

deep_at : (c : Fraction) (s : State) (f : FlatCommand) → state_after c s f ≡ Err StackDeep → IsTrue (is_push f) × (MAX_SAVED ≤ length s.saved)
deep_at c s Push e = (refl, many_at (length s.saved) (no_room _ _ e))
deep_at c s Enter e = (refl, many_at (length s.saved) (no_room _ _ e))
deep_at c s Pop e = absurd (deep_is_empty (only_empty s.saved StackDeep e).0)
deep_at c s Leave e = absurd (deep_is_empty (only_empty s.saved StackDeep e).0)
deep_at c s f e = absurd (deep_is_overflow (only_overflow c s f StackDeep refl refl e))

at_deep : (c : Fraction) (s : State) (f : FlatCommand) → IsTrue (is_push f) → MAX_SAVED ≤ length s.saved → state_after c s f ≡ Err StackDeep
at_deep c s Push push many = rw (at_many (length s.saved) many) refl
at_deep c s Enter push many = rw (at_many (length s.saved) many) refl
at_deep c s _ push many = absurd cc

pub deep_at_a_push : DeepAtAPush
deep_at_a_push c s f = (deep_at c s f, λ h. at_deep c s f h.0 h.1)

empty_at : (c : Fraction) (s : State) (f : FlatCommand) → state_after c s f ≡ Err StackEmpty → IsTrue (is_pop f) × (s.saved ≡ [])
empty_at c s Pop e = (refl, (only_empty s.saved StackEmpty e).1)
empty_at c s Leave e = (refl, (only_empty s.saved StackEmpty e).1)
empty_at c s Push e = absurd (empty_is_deep (only_deep _ _ StackEmpty e))
empty_at c s Enter e = absurd (empty_is_deep (only_deep _ _ StackEmpty e))
empty_at c s f e = absurd (empty_is_overflow (only_overflow c s f StackEmpty refl refl e))

at_empty : (c : Fraction) (s : State) (f : FlatCommand) → IsTrue (is_pop f) → s.saved ≡ [] → state_after c s f ≡ Err StackEmpty
at_empty c s Pop pop none = ap pop_registers none
at_empty c s Leave pop none = ap pop_registers none
at_empty c s _ pop none = absurd cc

pub empty_at_a_pop : EmptyAtAPop
empty_at_a_pop c s f = (empty_at c s f, λ h. at_empty c s f h.0 h.1)
