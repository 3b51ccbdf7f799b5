-- What a packet sets, and what comes after it.
use Rattle.std.proofs.Common.{◌≡◌, ◌∙◌, List, [], ◌∷◌, ◌++◌, Result, Ok, append_assoc, refl, sym, ap, ap₂}
use Rattle.pixel_round.specs.Pixels.{Fraction}
use Rattle.drift_rules.specs.Position.{FlatCommand, Enter, Leave, State, state_after, on_entry}
use Rattle.drift_rules.specs.Position as pen
use Rattle.drift_rules.specs.Marks.{mark_of}
use Rattle.drift_rules.specs.declared.faults.PenFault.{PenFault}
use Rattle.drift_rules.proofs.Near.{saved_is}
use Rattle.drift_rules.proofs.Stack.{pops_give_back}
use Rattle.raster_page.specs.Ink.{Inked}
use Rattle.page_draw.specs.Sheets.{inks_of}
use Rattle.page_draw.specs.Members.{Member, Flat, LookUp, Lack, and_then, marks_after, last_state, marks_from}
use Rattle.vf_expand.specs.Packets.{flats_of}
use Rattle.vf_expand.proofs.Packets.{packets_are_balanced}
use Rattle.page_draw.specs.Laws.{FontsPacketsAreSetInPlace, PacketsAreSetInPlace}
use Rattle.page_draw.specs.declared.sheet.Sheet.{Sheet}
use Rattle.page_draw.proofs.Lists.{apart}

-- members move the pen as their flat commands do
moved_by : (c : Fraction) (u m : State) (members : List Member) → last_state c u members ≡ Ok m
    → pen.Leads c u (flats_of members) m
moved_by c u m [] e = cc
moved_by c u m (Flat f g at ∷ members) e =
    let there = apart c (state_after c u f) members m e in
    (there.0, there.1, moved_by c there.0 m members there.2)
moved_by c u m (LookUp k at ∷ members) e = moved_by c u m members e
moved_by c u m (Lack f at ∷ members) e = moved_by c u m members e

one_more : (c : Fraction) (u m v : State) (flats : List FlatCommand) (f : FlatCommand)
    → pen.Leads c u flats m → state_after c m f ≡ Ok v → pen.Leads c u (flats ++ f ∷ []) v
one_more c u m v [] f leads e = (v, ap (λ (x : State). state_after c x f) (sym leads) ∙ e, refl)
one_more c u m v (g ∷ flats) f (mid, step, rest) e = (mid, step, one_more c mid m v flats f rest e)

-- the state between two lists
between : (c : Fraction) (u t : State) (members others : List Member) → last_state c u (members ++ others) ≡ Ok t
    → (m : State) × (last_state c u members ≡ Ok m) × (last_state c m others ≡ Ok t)
between c u t [] others e = (u, refl, e)
between c u t (Flat f g at ∷ members) others e =
    let there = apart c (state_after c u f) (members ++ others) t e in
    let r = between c there.0 t members others there.2 in
    (r.0, ap (λ (x : Result State PenFault). and_then x (λ v. last_state c v members)) there.1 ∙ r.1, r.2)
between c u t (LookUp k at ∷ members) others e = between c u t members others e
between c u t (Lack f at ∷ members) others e = between c u t members others e

-- what two lists set, one after the other
marks_append : (c : Fraction) (sheet : Sheet) (u m : State) (members others : List Member) → last_state c u members ≡ Ok m
    → marks_from c sheet u (members ++ others) ≡ marks_from c sheet u members ++ marks_from c sheet m others
marks_append c sheet u m [] others e =
    let same : u ≡ m = cc in
    ap (λ (x : State). marks_from c sheet x others) same
marks_append c sheet u m (Flat f g at ∷ members) others e =
    let there = apart c (state_after c u f) members m e in
    let own = inks_of sheet (mark_of c u.now f) g in
    ap (λ (r : Result State PenFault). own ++ marks_after r (λ v. marks_from c sheet v (members ++ others))) there.1
    ∙ ap (λ (marks : List Inked). own ++ marks) (marks_append c sheet there.0 m members others there.2)
    ∙ sym (append_assoc own (marks_from c sheet there.0 members) (marks_from c sheet m others))
    ∙ ap (λ (r : Result State PenFault). (own ++ marks_after r (λ v. marks_from c sheet v members)) ++ marks_from c sheet m others) (sym there.1)
marks_append c sheet u m (LookUp k at ∷ members) others e = marks_append c sheet u m members others e
marks_append c sheet u m (Lack f at ∷ members) others e = marks_append c sheet u m members others e

pub packets_are_set_in_place : PacketsAreSetInPlace
packets_are_set_in_place c sheet s t g h at end packet rest balanced e =
    let first = apart c (state_after c s Enter) (packet ++ Flat Leave h end ∷ []) t e in
    let begun : State = record { now = on_entry s.now; saved = s.now ∷ s.saved } in
    let same : begun ≡ first.0 = saved_is _ _ first.0 first.1 in
    let parts = between c first.0 t packet (Flat Leave h end ∷ []) first.2 in
    let last = apart c (state_after c parts.0 Leave) [] t parts.2 in
    let leads = one_more c first.0 parts.0 last.0 (flats_of packet) Leave (moved_by c first.0 parts.0 packet parts.1) last.1 in
    let back : last.0 ≡ s = pops_give_back c s last.0 Enter Leave (flats_of packet) refl refl balanced (first.0, first.1, leads) in
    ap (λ (r : Result State PenFault). marks_after r (λ v. marks_from c sheet v (packet ++ Flat Leave h end ∷ rest))) first.1
    ∙ marks_append c sheet first.0 parts.0 packet (Flat Leave h end ∷ rest) parts.1
    ∙ ap (λ (r : Result State PenFault). marks_from c sheet first.0 packet ++ marks_after r (λ v. marks_from c sheet v rest)) last.1
    ∙ ap₂ (λ (a b : State). marks_from c sheet a packet ++ marks_from c sheet b rest) (sym same) back

pub fonts_packets_are_set_in_place : FontsPacketsAreSetInPlace
fonts_packets_are_set_in_place c sheet s t g h at end fonts packet rest given e = packets_are_set_in_place c sheet s t g h at end packet rest (packets_are_balanced fonts packet given) e
