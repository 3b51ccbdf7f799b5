-- A page's list grows by one member at its end.
use Rattle.std.proofs.Common.{◌≡◌, ℕ, List, [], ◌∷◌, ◌++◌, refl, sym, ap, ap₂, subst, ◌∙◌, append_assoc, append-nil, Option, Some, None, Result, Ok, Err}
use Rattle.std.specs.Option.{option_map}
use Rattle.outside.specs.declared.keys.FontKey.{FontKey}
use Rattle.pixel_round.specs.Pixels.{Fraction}
use Rattle.drift_rules.specs.Position.{FlatCommand, State, state_after, at_origin}
use Rattle.drift_rules.specs.Marks.{mark_of}
use Rattle.drift_rules.specs.declared.faults.PenFault.{PenFault}
use Rattle.packed_rows.specs.Bitmap.{Bitmap}
use Rattle.pk_runs.specs.declared.glyph.Glyph.{Glyph}
use Rattle.raster_page.specs.Ink.{Inked, page_of}
use Rattle.font_decode.specs.Desks.{GrewBy}
use Rattle.font_decode.specs.declared.font_or_fault.Decoded.{Decoded}
use Rattle.vf_expand.specs.Course.{Course, Gives, Asks, Lacks}
use Rattle.vf_expand.specs.Faults.{PageFaultValue}
use Rattle.page_draw.specs.Lacks.{LackValue, each_once, lacks_of, with_lack}
use Rattle.page_draw.specs.Sheets.{inks_of}
use Rattle.page_draw.specs.Members.{Member, Flat, LookUp, Lack, Finding, Unfolds, looks_of, and_then, last_state, marks_after, marks_from}
pub use Rattle.page_draw.specs.DrawnUpTo.{IsDrawnUpTo}
use Rattle.page_draw.specs.Values.{DrawnValue}
use Rattle.page_draw.specs.declared.sheet.Sheet.{Sheet}
use Rattle.page_draw.proofs.EachOnce.{once_more}

abbrev with_flat : List Member → FlatCommand → Option Glyph → ℕ → List Member
with_flat members f g at = members ++ Flat f g at ∷ []

abbrev with_look : List Member → FontKey → ℕ → List Member
with_look members k at = members ++ LookUp k at ∷ []

abbrev with_miss : List Member → PageFaultValue → ℕ → List Member
with_miss members f at = members ++ Lack f at ∷ []

leads_flat : (Finds : Finding) (from : Course) (members : List Member) (f : FlatCommand) (g : Option Glyph) (at : ℕ) (to : Course)
    → Unfolds Finds from members (Gives f g at to) → Unfolds Finds from (with_flat members f g at) to
leads_flat Finds from [] f g at to leads = (to, leads, refl)
leads_flat Finds from (Flat f' g' at' ∷ members) f g at to leads = (leads.0, leads.1, leads_flat Finds leads.0 members f g at to leads.2)
leads_flat Finds from (LookUp k' at' ∷ members) f g at to leads = (leads.0, leads.1, leads.2, leads.3, leads_flat Finds (leads.0 leads.1) members f g at to leads.4)
leads_flat Finds from (Lack f' at' ∷ members) f g at to leads = (leads.0, leads.1, leads_flat Finds leads.0 members f g at to leads.2)

leads_look : (Finds : Finding) (from : Course) (members : List Member) (k : FontKey) (at : ℕ) (rest : Decoded → Course) (d : Decoded)
    → Unfolds Finds from members (Asks k at rest) → Finds k d → Unfolds Finds from (with_look members k at) (rest d)
leads_look Finds from [] k at rest d leads found = (rest, d, leads, found, refl)
leads_look Finds from (Flat f' g' at' ∷ members) k at rest d leads found = (leads.0, leads.1, leads_look Finds leads.0 members k at rest d leads.2 found)
leads_look Finds from (LookUp k' at' ∷ members) k at rest d leads found =
    (leads.0, leads.1, leads.2, leads.3, leads_look Finds (leads.0 leads.1) members k at rest d leads.4 found)
leads_look Finds from (Lack f' at' ∷ members) k at rest d leads found = (leads.0, leads.1, leads_look Finds leads.0 members k at rest d leads.2 found)

leads_miss : (Finds : Finding) (from : Course) (members : List Member) (f : PageFaultValue) (at : ℕ) (to : Course)
    → Unfolds Finds from members (Lacks f at to) → Unfolds Finds from (with_miss members f at) to
leads_miss Finds from [] f at to leads = (to, leads, refl)
leads_miss Finds from (Flat f' g' at' ∷ members) f at to leads = (leads.0, leads.1, leads_miss Finds leads.0 members f at to leads.2)
leads_miss Finds from (LookUp k' at' ∷ members) f at to leads = (leads.0, leads.1, leads.2, leads.3, leads_miss Finds (leads.0 leads.1) members f at to leads.4)
leads_miss Finds from (Lack f' at' ∷ members) f at to leads = (leads.0, leads.1, leads_miss Finds leads.0 members f at to leads.2)

looks_flat : (members : List Member) (f : FlatCommand) (g : Option Glyph) (at : ℕ) → looks_of (with_flat members f g at) ≡ looks_of members
looks_flat [] f g at = refl
looks_flat (Flat f' g' at' ∷ members) f g at = looks_flat members f g at
looks_flat (LookUp k' at' ∷ members) f g at = ap (λ (keys : List FontKey). k' ∷ keys) (looks_flat members f g at)
looks_flat (Lack f' at' ∷ members) f g at = looks_flat members f g at

looks_look : (members : List Member) (k : FontKey) (at : ℕ) → looks_of (with_look members k at) ≡ looks_of members ++ k ∷ []
looks_look [] k at = refl
looks_look (Flat f' g' at' ∷ members) k at = looks_look members k at
looks_look (LookUp k' at' ∷ members) k at = ap (λ (keys : List FontKey). k' ∷ keys) (looks_look members k at)
looks_look (Lack f' at' ∷ members) k at = looks_look members k at

looks_miss : (members : List Member) (f : PageFaultValue) (at : ℕ) → looks_of (with_miss members f at) ≡ looks_of members
looks_miss [] f at = refl
looks_miss (Flat f' g' at' ∷ members) f at = looks_miss members f at
looks_miss (LookUp k' at' ∷ members) f at = ap (λ (keys : List FontKey). k' ∷ keys) (looks_miss members f at)
looks_miss (Lack f' at' ∷ members) f at = looks_miss members f at

-- ---- lacks

lacks_flat : (members : List Member) (f : FlatCommand) (g : Option Glyph) (at : ℕ) → lacks_of (with_flat members f g at) ≡ lacks_of members
lacks_flat [] f g at = refl
lacks_flat (Flat f' g' at' ∷ members) f g at = lacks_flat members f g at
lacks_flat (LookUp k' at' ∷ members) f g at = lacks_flat members f g at
lacks_flat (Lack f' at' ∷ members) f g at = ap (λ (lacks : List LackValue). record { fault = f'; at = at' } ∷ lacks) (lacks_flat members f g at)

lacks_look : (members : List Member) (k : FontKey) (at : ℕ) → lacks_of (with_look members k at) ≡ lacks_of members
lacks_look [] k at = refl
lacks_look (Flat f' g' at' ∷ members) k at = lacks_look members k at
lacks_look (LookUp k' at' ∷ members) k at = lacks_look members k at
lacks_look (Lack f' at' ∷ members) k at = ap (λ (lacks : List LackValue). record { fault = f'; at = at' } ∷ lacks) (lacks_look members k at)

lacks_miss : (members : List Member) (f : PageFaultValue) (at : ℕ) → lacks_of (with_miss members f at) ≡ lacks_of members ++ record { fault = f; at = at } ∷ []
lacks_miss [] f at = refl
lacks_miss (Flat f' g' at' ∷ members) f at = lacks_miss members f at
lacks_miss (LookUp k' at' ∷ members) f at = lacks_miss members f at
lacks_miss (Lack f' at' ∷ members) f at = ap (λ (lacks : List LackValue). record { fault = f'; at = at' } ∷ lacks) (lacks_miss members f at)

-- ---- states and marks

-- a state after one member and others
pub apart : (c : Fraction) (r : Result State PenFault) (members : List Member) (t : State) → and_then r (λ u. last_state c u members) ≡ Ok t
    → (u : State) × (r ≡ Ok u) × (last_state c u members ≡ Ok t)
apart c (Ok u) members t e = (u, refl, e)
apart c (Err fault) members t e = absurd cc

state_flat : (c : Fraction) (s t u : State) (members : List Member) (f : FlatCommand) (g : Option Glyph) (at : ℕ) → last_state c s members ≡ Ok t → state_after c t f ≡ Ok u
    → last_state c s (with_flat members f g at) ≡ Ok u
state_flat c s t u [] f g at e moved =
    let same : s ≡ t = cc in
    ap (λ (r : Result State PenFault). and_then r (λ v. last_state c v [])) (ap (λ (x : State). state_after c x f) same ∙ moved)
state_flat c s t u (Flat f' g' at' ∷ members) f g at e moved =
    let there = apart c (state_after c s f') members t e in
    ap (λ (r : Result State PenFault). and_then r (λ v. last_state c v (with_flat members f g at))) there.1 ∙ state_flat c there.0 t u members f g at there.2 moved
state_flat c s t u (LookUp k' at' ∷ members) f g at e moved = state_flat c s t u members f g at e moved
state_flat c s t u (Lack f' at' ∷ members) f g at e moved = state_flat c s t u members f g at e moved

state_beyond : (c : Fraction) (r : Result State PenFault) (members others : List Member) → ((u : State) → last_state c u members ≡ last_state c u others)
    → and_then r (λ u. last_state c u members) ≡ and_then r (λ u. last_state c u others)
state_beyond c (Ok u) members others same = same u
state_beyond c (Err fault) members others same = refl

state_look : (c : Fraction) (s : State) (members : List Member) (k : FontKey) (at : ℕ) → last_state c s (with_look members k at) ≡ last_state c s members
state_look c s [] k at = refl
state_look c s (Flat f' g' at' ∷ members) k at = state_beyond c (state_after c s f') (with_look members k at) members (λ u. state_look c u members k at)
state_look c s (LookUp k' at' ∷ members) k at = state_look c s members k at
state_look c s (Lack f' at' ∷ members) k at = state_look c s members k at

state_miss : (c : Fraction) (s : State) (members : List Member) (f : PageFaultValue) (at : ℕ) → last_state c s (with_miss members f at) ≡ last_state c s members
state_miss c s [] f at = refl
state_miss c s (Flat f' g' at' ∷ members) f at = state_beyond c (state_after c s f') (with_miss members f at) members (λ u. state_miss c u members f at)
state_miss c s (LookUp k' at' ∷ members) f at = state_miss c s members f at
state_miss c s (Lack f' at' ∷ members) f at = state_miss c s members f at

nothing_after : (r : Result State PenFault) → marks_after r (λ u. []) ≡ []
nothing_after (Ok u) = refl
nothing_after (Err fault) = refl

marks_flat : (c : Fraction) (sheet : Sheet) (s t : State) (members : List Member) (f : FlatCommand) (g : Option Glyph) (at : ℕ) → last_state c s members ≡ Ok t
    → marks_from c sheet s (with_flat members f g at) ≡ marks_from c sheet s members ++ inks_of sheet (mark_of c t.now f) g
marks_flat c sheet s t [] f g at e =
    let same : s ≡ t = cc in
    ap (λ (marks : List Inked). inks_of sheet (mark_of c s.now f) g ++ marks) (nothing_after (state_after c s f)) ∙ append-nil (inks_of sheet (mark_of c s.now f) g)
    ∙ ap (λ (x : State). inks_of sheet (mark_of c x.now f) g) same
marks_flat c sheet s t (Flat f' g' at' ∷ members) f g at e =
    let there = apart c (state_after c s f') members t e in
    let own = inks_of sheet (mark_of c s.now f') g' in
    ap (λ (r : Result State PenFault). own ++ marks_after r (λ v. marks_from c sheet v (with_flat members f g at))) there.1
    ∙ ap (λ (marks : List Inked). own ++ marks) (marks_flat c sheet there.0 t members f g at there.2)
    ∙ sym (append_assoc own (marks_from c sheet there.0 members) (inks_of sheet (mark_of c t.now f) g))
    ∙ ap (λ (r : Result State PenFault). (own ++ marks_after r (λ v. marks_from c sheet v members)) ++ inks_of sheet (mark_of c t.now f) g) (sym there.1)
marks_flat c sheet s t (LookUp k' at' ∷ members) f g at e = marks_flat c sheet s t members f g at e
marks_flat c sheet s t (Lack f' at' ∷ members) f g at e = marks_flat c sheet s t members f g at e

marks_look : (c : Fraction) (sheet : Sheet) (s t : State) (members : List Member) (k : FontKey) (at : ℕ) → last_state c s members ≡ Ok t
    → marks_from c sheet s (with_look members k at) ≡ marks_from c sheet s members
marks_look c sheet s t [] k at e = refl
marks_look c sheet s t (Flat f' g' at' ∷ members) k at e =
    let there = apart c (state_after c s f') members t e in
    let own = inks_of sheet (mark_of c s.now f') g' in
    ap (λ (r : Result State PenFault). own ++ marks_after r (λ v. marks_from c sheet v (with_look members k at))) there.1
    ∙ ap (λ (marks : List Inked). own ++ marks) (marks_look c sheet there.0 t members k at there.2)
    ∙ ap (λ (r : Result State PenFault). own ++ marks_after r (λ v. marks_from c sheet v members)) (sym there.1)
marks_look c sheet s t (LookUp k' at' ∷ members) k at e = marks_look c sheet s t members k at e
marks_look c sheet s t (Lack f' at' ∷ members) k at e = marks_look c sheet s t members k at e

marks_miss : (c : Fraction) (sheet : Sheet) (s t : State) (members : List Member) (f : PageFaultValue) (at : ℕ) → last_state c s members ≡ Ok t
    → marks_from c sheet s (with_miss members f at) ≡ marks_from c sheet s members
marks_miss c sheet s t [] f at e = refl
marks_miss c sheet s t (Flat f' g' at' ∷ members) f at e =
    let there = apart c (state_after c s f') members t e in
    let own = inks_of sheet (mark_of c s.now f') g' in
    ap (λ (r : Result State PenFault). own ++ marks_after r (λ v. marks_from c sheet v (with_miss members f at))) there.1
    ∙ ap (λ (marks : List Inked). own ++ marks) (marks_miss c sheet there.0 t members f at there.2)
    ∙ ap (λ (r : Result State PenFault). own ++ marks_after r (λ v. marks_from c sheet v members)) (sym there.1)
marks_miss c sheet s t (LookUp k' at' ∷ members) f at e = marks_miss c sheet s t members f at e
marks_miss c sheet s t (Lack f' at' ∷ members) f at e = marks_miss c sheet s t members f at e

-- ---- the keys asked for

pub grew_none : (old : Option (List FontKey)) → GrewBy old old []
grew_none None = refl
grew_none (Some keys) = ap Some (sym (append-nil keys))

pub grew_more : (old mid new : Option (List FontKey)) (first second : List FontKey) → GrewBy old mid first → GrewBy mid new second → GrewBy old new (first ++ second)
grew_more None mid new first second e h = h ∙ ap (option_map (λ keys. keys ++ second)) e
grew_more (Some keys) mid new first second e h = h ∙ ap (option_map (λ asked. asked ++ second)) e ∙ ap Some (append_assoc keys first second)

-- ---- a page as far as it was drawn

abbrev pub made : Bitmap → List LackValue → DrawnValue
made page lacks = record { page = page; lacks = lacks }

pub so_far_none : (Finds : Finding) (c : Fraction) (sheet : Sheet) (from to : Course) (s : State) (page : Bitmap) (old : Option (List FontKey)) → to ≡ from → s ≡ at_origin
    → page ≡ page_of sheet.width sheet.height [] → IsDrawnUpTo Finds c sheet from to s (made page []) old old
so_far_none Finds c sheet from to s page old begins origin blank =
    record { members = []; leads = sym begins; moved = ap Ok (sym origin); has = ap (λ (p : Bitmap). made p []) blank; asked = grew_none old }

module _ (Finds : Finding) (c : Fraction) (sheet : Sheet) (from to : Course) (s : State) (drawn : DrawnValue) (old new : Option (List FontKey))
    (so_far : IsDrawnUpTo Finds c sheet from to s drawn old new) where
  -- one flat command more, whose marks were set
  pub so_far_flat : (f : FlatCommand) (g : Option Glyph) (at : ℕ) (rest : Course) (t : State) (page' : Bitmap) → to ≡ Gives f g at rest → state_after c s f ≡ Ok t
      → ((done : List Inked) → drawn.page ≡ page_of sheet.width sheet.height done → page' ≡ page_of sheet.width sheet.height (done ++ inks_of sheet (mark_of c s.now f) g))
      → IsDrawnUpTo Finds c sheet from rest t (made page' drawn.lacks) old new
  so_far_flat f g at rest t page' gives moved inked =
      let members = so_far.members in
      record {
        members = with_flat members f g at;
        leads = leads_flat Finds from members f g at rest (subst (Unfolds Finds from members) gives so_far.leads);
        moved = state_flat c at_origin s t members f g at so_far.moved moved;
        has = ap₂ made
            (inked (marks_from c sheet at_origin members) (ap (λ (d : DrawnValue). d.page) so_far.has)
            ∙ ap (λ (marks : List Inked). page_of sheet.width sheet.height marks) (sym (marks_flat c sheet at_origin s members f g at so_far.moved)))
            (ap (λ (d : DrawnValue). d.lacks) so_far.has ∙ ap each_once (sym (lacks_flat members f g at)));
        asked = subst (GrewBy old new) (sym (looks_flat members f g at)) so_far.asked;
      }

  -- one look-up more, whose key was asked for
  pub so_far_look : (k : FontKey) (at : ℕ) (rest : Decoded → Course) (d : Decoded) (now : Option (List FontKey)) → to ≡ Asks k at rest → Finds k d → GrewBy new now (k ∷ [])
      → IsDrawnUpTo Finds c sheet from (rest d) s drawn old now
  so_far_look k at rest d now asks found grew =
      let members = so_far.members in
      record {
        members = with_look members k at;
        leads = leads_look Finds from members k at rest d (subst (Unfolds Finds from members) asks so_far.leads) found;
        moved = state_look c at_origin members k at ∙ so_far.moved;
        has = so_far.has
            ∙ ap₂ made (ap (λ (marks : List Inked). page_of sheet.width sheet.height marks) (sym (marks_look c sheet at_origin s members k at so_far.moved)))
            (ap each_once (sym (lacks_look members k at)));
        asked = subst (GrewBy old now) (sym (looks_look members k at)) (grew_more old new now (looks_of members) (k ∷ []) so_far.asked grew);
      }

  -- one lack more
  pub so_far_miss : (f : PageFaultValue) (at : ℕ) (rest : Course) (lacks' : List LackValue) → to ≡ Lacks f at rest → lacks' ≡ with_lack drawn.lacks (record { fault = f; at = at })
      → IsDrawnUpTo Finds c sheet from rest s (made drawn.page lacks') old new
  so_far_miss f at rest lacks' misses noted =
      let members = so_far.members in
      let lack : LackValue = record { fault = f; at = at } in
      record {
        members = with_miss members f at;
        leads = leads_miss Finds from members f at rest (subst (Unfolds Finds from members) misses so_far.leads);
        moved = state_miss c at_origin members f at ∙ so_far.moved;
        has = ap₂ made
            (ap (λ (d : DrawnValue). d.page) so_far.has ∙ ap (λ (marks : List Inked). page_of sheet.width sheet.height marks) (sym (marks_miss c sheet at_origin s members f at so_far.moved)))
            (noted ∙ ap (λ (d : DrawnValue). with_lack d.lacks lack) so_far.has ∙ sym (once_more (lacks_of members) lack) ∙ ap each_once (sym (lacks_miss members f at)));
        asked = subst (GrewBy old new) (sym (looks_miss members f at)) so_far.asked;
      }

  -- the same where what is left is written in another way
  pub so_far_same : (to' : Course) → to' ≡ to → IsDrawnUpTo Finds c sheet from to' s drawn old new
  so_far_same to' e = record { members = so_far.members; leads = subst (Unfolds Finds from so_far.members) (sym e) so_far.leads; moved = so_far.moved; has = so_far.has; asked = so_far.asked }
