-- The next command of the page or of the packet that is read.
use Rattle.std.proofs.Common.{◌≡◌, ℕ, Bool, true, false, zero, suc, ◌+◌, ◌-◌, ◌<◌, ◌≤◌, List, [], ◌∷◌, length, drop, refl, sym, ap, subst, ◌∙◌, arith, Option, Some, None, length-drop}
use Rattle.std.specs.Prelude.{slice_range, unwrap_or}
use Rattle.dvi_commands.specs.declared.command.Context.{Context}
use Rattle.dvi_commands.specs.declared.command.Context.TheVariants as context
use Rattle.dvi_commands.specs.Spelling.{DviCommand, Spells}
use Rattle.dvi_commands.specs.Reading.{Placed, placed, placed_from, commands_of, Reads, AreCommands}
use Rattle.dvi_commands.proofs.Commands.{placed_on, placed_none, placed_first, commands_on, commands_none}
use Rattle.page_index.specs.Document.{Reading}
use Rattle.page_index.specs.Pages.{eop_at, page_commands}
use Rattle.vf_expand.specs.Faults.{PageFaultValue, TooLong}
use Rattle.vf_expand.specs.Course.{Course, Gives, Asks, Lacks, Ends, Stops, lack_or_stop, Current, NoFont, Place, OnPage, course_of, cut, deeper, expand_one, expand_list, leave, page_from}
use Rattle.vf_expand.specs.Limits.{MAX_FLAT_COMMANDS}
use Rattle.vf_expand.specs.Limits.{MAX_DEPTH}
use Rattle.vf_expand.specs.Expansion.{HasNoLack, Page, IsEnded, course_left, depth, place_in, place_of, stack_left}
use Rattle.vf_expand.specs.Effects.{value_of_current}
use Rattle.vf_expand.specs.Levels.{AreLevels, place_at, position, stack_of, text_in, level_text}
use Rattle.vf_expand.specs.declared.outer_levels.Level.{Level}
use Rattle.vf_expand.specs.declared.current.Current as code
use Rattle.vf_expand.proofs.Late.{late_list, late_one}

-- ---- levels

pub depth_is : (bytes : List ℕ) (start : ℕ) (level : Level) (outer : List Level) → depth (stack_of bytes start level outer) ≡ length outer
depth_is bytes start level [] = refl
depth_is bytes start level (o ∷ outer) = ap suc (depth_is bytes start o outer)

-- the current font of the level that is read is no part of what is left of it
pub stack_same : (bytes : List ℕ) (start : ℕ) (level : Level) (now : code.Current) (outer : List Level) → stack_of bytes start (record level { current = now }) outer ≡ stack_of bytes start level outer
stack_same bytes start level now [] = refl
stack_same bytes start level now (o ∷ outer) = refl

-- the place of the last step is no part of what is left of the page
pub still : (reading : Reading) (eop at start : ℕ) (bytes : List ℕ) (level : Level) (outer : List Level) (current : Current)
    → stack_left reading eop (position start at level outer) current (stack_of bytes start level outer) ≡ stack_left reading eop at current (stack_of bytes start level outer)
still reading eop at start bytes level [] current = refl
still reading eop at start bytes level (o ∷ outer) current = refl

-- ---- a command

-- the command that was read at a place of a page, and the commands after it
read_on : (bytes : List ℕ) (start at end : ℕ) (c : DviCommand) → at < end → end ≤ length bytes → Spells c (slice_range bytes at end)
    → placed_from (start + at) (drop at bytes) ≡ placed (start + at) c (slice_range bytes at end) ∷ placed_from (start + end) (drop end bytes)
read_on bytes start at end c h inside spelled =
    let sum : start + at + (end - at) ≡ start + end = omega arith in
    placed_on bytes at end (start + at) c h inside spelled ∙ ap (λ (n : ℕ). placed (start + at) c (slice_range bytes at end) ∷ placed_from n (drop end bytes)) sum

module _ (reading : Reading) (eop start at : ℕ) (bytes : List ℕ) (level : Level) (end : ℕ) (c : DviCommand) where
  pub head : (outer : List Level) → level.pos < end → end ≤ length (level_text bytes level outer) → Spells c (slice_range (level_text bytes level outer) level.pos end) → (current : Current)
      → stack_left reading eop at current (stack_of bytes start level outer)
      ≡ expand_one (deeper (MAX_DEPTH - length outer) (position start at level outer)) (place_at reading outer) (position start at level outer) current c
      (λ next. stack_left reading eop (position start at level outer) next (stack_of bytes start (record level { pos = end }) outer))
  head [] h inside spelled current = ap (page_from reading eop current) (read_on bytes start level.pos end c h inside spelled)
  head (o ∷ outer) h inside spelled current =
      let outside = value_of_current o.current in
      let text = text_in outside level.code in
      let after = leave level.advance at (stack_left reading eop at outside (stack_of bytes start o outer)) in
      ap (λ (commands : List DviCommand). expand_list (expand_one (deeper (MAX_DEPTH - suc (depth (stack_of bytes start o outer))) at) (place_in reading outside) at) current commands after)
      (commands_on text level.pos end c h spelled)
      ∙ ap (λ (n : ℕ). expand_one (deeper (MAX_DEPTH - suc n) at) (place_in reading outside) at current c
      (λ next. stack_left reading eop at next (stack_of bytes start (record level { pos = end }) (o ∷ outer)))) (depth_is bytes start o outer)

-- the same, by what the code has of them
module _ (reading : Reading) (eop start at : ℕ) (bytes : List ℕ) (level : Level) (outer : List Level) where
  pub still_at : (here : ℕ) → here ≡ position start at level outer → (current : Current)
      → stack_left reading eop here current (stack_of bytes start level outer) ≡ stack_left reading eop at current (stack_of bytes start level outer)
  still_at here e current =
      ap (λ (n : ℕ). stack_left reading eop n current (stack_of bytes start level outer)) e ∙ still reading eop at start bytes level outer current

  pub head_at : (end : ℕ) (c : DviCommand) (text : List ℕ) (place : Place) (here room : ℕ) → text ≡ level_text bytes level outer → place ≡ place_at reading outer
      → here ≡ position start at level outer → room ≡ MAX_DEPTH - length outer → level.pos < end → end ≤ length text → Spells c (slice_range text level.pos end) → (current : Current)
      → stack_left reading eop at current (stack_of bytes start level outer)
      ≡ expand_one (deeper room here) place here current c (λ next. stack_left reading eop here next (stack_of bytes start (record level { pos = end }) outer))
  head_at end c text place here room same_text same_place same_here same_room h inside spelled current =
      let rest = stack_of bytes start (record level { pos = end }) outer in
      head reading eop start at bytes level end c outer h (subst (λ (t : List ℕ). end ≤ length t) same_text inside)
      (subst (λ (t : List ℕ). Spells c (slice_range t level.pos end)) same_text spelled) current
      ∙ ap (λ (n : ℕ). expand_one (deeper (MAX_DEPTH - length outer) n) (place_at reading outer) n current c (λ next. stack_left reading eop n next rest)) (sym same_here)
      ∙ ap (λ (p : Place). expand_one (deeper (MAX_DEPTH - length outer) here) p here current c (λ next. stack_left reading eop here next rest)) (sym same_place)
      ∙ ap (λ (n : ℕ). expand_one (deeper n here) place here current c (λ next. stack_left reading eop here next rest)) (sym same_room)

-- ---- the end

drop_end : (bytes : List ℕ) → drop (length bytes) bytes ≡ []
drop_end [] = refl
drop_end (b ∷ bytes) = drop_end bytes

none_after : (bytes : List ℕ) (at : ℕ) → at ≡ length bytes → drop at bytes ≡ []
none_after bytes at e = ap (λ (k : ℕ). drop k bytes) e ∙ drop_end bytes

-- at the end of its bytes nothing is left
pub ended : (bytes : List ℕ) (start : ℕ) (level : Level) (outer : List Level) → level.pos ≡ length (level_text bytes level outer) → IsEnded (stack_of bytes start level outer)
ended bytes start level [] e = ap (placed_from (start + level.pos)) (none_after bytes level.pos e) ∙ placed_none (start + level.pos)
ended bytes start level (o ∷ outer) e = ap commands_of (none_after (text_in (value_of_current o.current) level.code) level.pos e) ∙ commands_none

-- ---- no room

some_placed : (place : Context) (commands : List DviCommand) (bytes : List ℕ) (start : ℕ) → 0 < length bytes → AreCommands place commands bytes
    → (p : Placed) × (rest : List Placed) × (p.at ≡ start) × (placed_from start bytes ≡ p ∷ rest)
some_placed place [] bytes start some are = absurd (omega (arith, ap length are))
some_placed place (c ∷ commands) bytes start some are =
    (placed start c are.0, placed_from (start + length are.0) are.1, refl, ap (placed_from start) are.2.whole ∙ placed_first start c are.0 are.1 are.2.spelled)

pub late_stack : (t : Bool) (reading : Reading) (eop start at : ℕ) (bytes : List ℕ) (level : Level) (outer : List Level) (current : Current) → level.pos < length (level_text bytes level outer) → AreLevels bytes level outer
    → cut t 0 (stack_left reading eop at current (stack_of bytes start level outer)) ≡ Stops TooLong (position start at level outer)
late_stack t reading eop start at bytes level [] current inside fine =
    let there = some_placed context.Page fine.readable.commands (drop level.pos bytes) (start + level.pos) (omega (arith, length-drop level.pos bytes)) fine.readable.are in
    ap (λ (commands : List Placed). cut t 0 (page_from reading eop current commands)) there.3
    ∙ late_one t (deeper MAX_DEPTH there.0.at) (OnPage reading) there.0.at current there.0.command (λ next. page_from reading eop next there.1)
    ∙ ap (Stops TooLong) there.2
late_stack t reading eop start at bytes level (o ∷ outer) current inside fine =
    let outside = value_of_current o.current in
    late_list t (deeper (MAX_DEPTH - suc (depth (stack_of bytes start o outer))) at) (place_in reading outside) at current (commands_of (drop level.pos (text_in outside level.code))) level.advance
    (stack_left reading eop at outside (stack_of bytes start o outer))

-- ---- as a page begins

pub new_left : (t : Bool) (reading : Reading) (i start : ℕ) (bytes : List ℕ) → placed_from start bytes ≡ page_commands i reading → eop_at i reading ≡ Some (start + length bytes)
    → course_left t reading (start + length bytes) start 16777216 None NoFont (Page (placed_from (start + 0) (drop 0 bytes))) ≡ course_of t reading i
unfolding course_left
new_left t reading i start bytes commands ends =
    let sum : start + 0 ≡ start = omega arith in
    ap (λ (n : ℕ). cut t MAX_FLAT_COMMANDS (page_from reading (start + length bytes) NoFont (placed_from n bytes))) sum
    ∙ ap (λ (placed : List Placed). cut t MAX_FLAT_COMMANDS (page_from reading (start + length bytes) NoFont placed)) commands
    ∙ sym (ap (λ (o : Option ℕ). cut t MAX_FLAT_COMMANDS (page_from reading (unwrap_or o 0) NoFont (page_commands i reading))) ends)

-- the place of what stands next
place_lack : (t : Bool) (f : PageFaultValue) (at : ℕ) (rest : Course) → place_of (lack_or_stop t f at rest) ≡ at
place_lack true f at rest = refl
place_lack false f at rest = refl

place_cut : (t : Bool) (n : ℕ) (x : Course) → place_of (cut t n x) ≡ place_of x
place_cut t zero (Gives f g at rest) = refl
place_cut t zero (Asks k at rest) = refl
place_cut t zero (Lacks f at rest) = refl
place_cut t zero (Ends at) = refl
place_cut t zero (Stops fault at) = refl
place_cut t (suc n) (Gives f g at rest) = refl
place_cut t (suc n) (Asks k at rest) = refl
place_cut t (suc n) (Lacks f at rest) = place_lack t f at (cut t (suc n) rest)
place_cut t (suc n) (Ends at) = refl
place_cut t (suc n) (Stops fault at) = refl

place_left : (t : Bool) (reading : Reading) (eop at b : ℕ) (current : Current) (p : Placed) (commands : List Placed) → place_of (course_left t reading eop at b None current (Page (p ∷ commands))) ≡ p.at
unfolding course_left
place_left t reading eop at b current p commands =
    let x = page_from reading eop current (p ∷ commands) in
    place_cut t b x ∙ sym (place_cut t 0 x) ∙ ap place_of (late_one t (deeper MAX_DEPTH p.at) (OnPage reading) p.at current p.command (λ next. page_from reading eop next commands))

end_place : (t : Bool) (reading : Reading) (eop at b : ℕ) (current : Current) → place_of (course_left t reading eop at b None current (Page [])) ≡ eop
unfolding course_left
end_place t reading eop at b current = place_cut t b (Ends eop)

pub new_place : (t : Bool) (reading : Reading) (b start : ℕ) (current : Current) (bytes : List ℕ) → Reads context.Page bytes
    → start ≡ place_of (course_left t reading (start + length bytes) start b None current (Page (placed_from (start + 0) (drop 0 bytes))))
new_place t reading b start current [] reads =
    let sum : start ≡ start + 0 = omega arith in
    sum ∙ sym (end_place t reading (start + 0) start b current)
    ∙ ap (λ (commands : List Placed). place_of (course_left t reading (start + 0) start b None current (Page commands))) (sym (placed_none (start + 0)))
new_place t reading b start current (byte ∷ bytes) reads =
    let all = byte ∷ bytes in
    let there = some_placed context.Page reads.commands all (start + 0) (omega arith) reads.are in
    let sum : start ≡ start + 0 = omega arith in
    sum ∙ sym there.2 ∙ sym (ap (λ (placed : List Placed). place_of (course_left t reading (start + length all) start b None current (Page placed))) there.3
    ∙ place_left t reading (start + length all) start b current there.0 there.1)

-- without the option nothing is lacking
no_lack_cut : (n : ℕ) (x : Course) → HasNoLack (cut false n x)
no_lack_cut zero (Gives f g at rest) = tt
no_lack_cut zero (Asks k at rest) = tt
no_lack_cut zero (Lacks f at rest) = tt
no_lack_cut zero (Ends at) = tt
no_lack_cut zero (Stops f at) = tt
no_lack_cut (suc n) (Gives f g at rest) = no_lack_cut n rest
no_lack_cut (suc n) (Asks k at rest) = λ d. no_lack_cut (suc n) (rest d)
no_lack_cut (suc n) (Lacks f at rest) = tt
no_lack_cut (suc n) (Ends at) = tt
no_lack_cut (suc n) (Stops f at) = tt

pub strict_page : (reading : Reading) (i : ℕ) → HasNoLack (course_of false reading i)
strict_page reading i = no_lack_cut MAX_FLAT_COMMANDS (page_from reading (unwrap_or (eop_at i reading) 0) NoFont (page_commands i reading))
