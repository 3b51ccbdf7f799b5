-- What runs by one worker have in common.
use Rattle.std.proofs.Common.{◌≡◌, inl, inr, ℕ, suc, ◌<◌, ◌≤◌, Bool, true, false, List, [], ◌∷◌, ◌++◌, length, take, get_or, Option, Some, None, refl, sym, ap, ap₂, subst, ◌∙◌, append-nil, arith}
use Rattle.std.specs.List.{sum_by}
use Rattle.std.proofs.lemmas.Bool.{cases_lt}
use Rattle.std.proofs.lemmas.List.{length-append}
use Rattle.outside.specs.Library.{FileTable}
use Rattle.outside.specs.declared.keys.FontKey.{FontKey}
use Rattle.cache_core.specs.declared.calls.Call.{Call}
use Rattle.cache_core.specs.Histories.{AllWeigh, SeatCalls, own}
use Rattle.cache_core.specs.Solo.{solo_history}
use Rattle.font_decode.specs.Weights.{IsWeightOf, OneWeightInALibrary}
use Rattle.page_index.specs.Document.{Reading, pages_begun}
use Rattle.page_index.specs.Pages.{document_units}
use Rattle.page_draw.specs.Laws.{PagesHaveOneValue}
use Rattle.page_draw.specs.Values.{PageValue, DrawnValue}
use Rattle.run_report.specs.Summary.{summary_text}
use Rattle.run_report.specs.Trace.{trace_text}
use Rattle.run_report.specs.declared.counts.Counts.{Counts}
use Rattle.command_line.specs.declared.settings.Settings.{Settings}
use Rattle.dvi_run.specs.Pages.{FailingPage, IsRun, Setup, finding, run_fault, whole_pages, black_in}
use Rattle.dvi_run.specs.CacheLimits.{cache_limits}
use Rattle.dvi_run.specs.Endings.{EndingValue, Written, Usage, Document, Page, Source, Input, Output, Notes, Memory, EndsPages, page_status, status_of}
use Rattle.dvi_run.specs.Laws.{OneReading, OneRun}
use Rattle.dvi_run.specs.Lines.{lacks_text, line_of, page_line}
use Rattle.dvi_run.specs.Looked.{WasNotCutOffBy, WholeLooks}
use Rattle.dvi_run.specs.OneWorker.{IsByItsPages, RunsOfOneWorkerAreAlike, page_named}
use Rattle.dvi_run.specs.Outside.{setup_of}
use Rattle.dvi_run.specs.Together.{EveryPageCameToItsEndBy}
use Rattle.dvi_run.specs.Report.{counts_of, if_asked, loads_of, report_text}
use Rattle.dvi_run.specs.Rounds.{LoadsAreOf, indexed_of}
use Rattle.dvi_run.specs.Shares.{ArePartitioned, DrewUpTo, WorkersDrew}
use Rattle.dvi_run.specs.Tally.{TallyMatches, TallyMatchesRun}
use Rattle.dvi_run.specs.declared.tally.Tally.{Tally}
use Rattle.dvi_run.proofs.Clauses.{AtPage, at_page}
use Rattle.dvi_run.proofs.OneRun.{all_good, ends_once, found}
use Rattle.dvi_run.proofs.OneWorkerCalls.{one_loads, same_loads, weigh_alike}
use Rattle.dvi_run.proofs.OneWorkerPages.{same_pages}
use Rattle.dvi_run.proofs.Prefixes.{none_after_fault}
use Rattle.dvi_run.proofs.RunOfWorkers.{one_of}

-- ---- how such runs end

fault_is : (old new : Option (List ℕ)) (reading : Reading) (values : List PageValue) (e : EndingValue) → IsByItsPages e → EndsPages old new (Unit {0}) (Unit {0}) e reading values → run_fault values ≡ page_named e
fault_is old new reading values Written by h = h.good
fault_is old new reading values Usage by h = absurd by
fault_is old new reading values (Document fault) by h = absurd by
fault_is old new reading values (Page page) by h = h.fails
fault_is old new reading values (Source page) by h = absurd by
fault_is old new reading values Input by h = absurd by
fault_is old new reading values (Output page) by h = absurd by
fault_is old new reading values Notes by h = h.good
fault_is old new reading values Memory by h = absurd by

whole_is : (old new : Option (List ℕ)) (reading : Reading) (values : List PageValue) (e : EndingValue) → IsByItsPages e → EndsPages old new (Unit {0}) (Unit {0}) e reading values → page_named e ≡ None
    → length values ≡ pages_begun reading
whole_is old new reading values Written by h none = h.all
whole_is old new reading values Usage by h none = absurd by
whole_is old new reading values (Document fault) by h none = absurd by
whole_is old new reading values (Page page) by h none = absurd cc
whole_is old new reading values (Source page) by h none = absurd by
whole_is old new reading values Input by h none = absurd by
whole_is old new reading values (Output page) by h none = absurd by
whole_is old new reading values Notes by h none = h.all
whole_is old new reading values Memory by h none = absurd by

-- the line of an end, by the page that it names
abbrev line_by : Option FailingPage → List ℕ
line_by None = []
line_by (Some page) = page_line page

line_is : (e : EndingValue) → IsByItsPages e → line_of e ≡ line_by (page_named e)
line_is Written by = refl
line_is Usage by = absurd by
line_is (Document fault) by = absurd by
line_is (Page page) by = refl
line_is (Source page) by = absurd by
line_is Input by = absurd by
line_is (Output page) by = absurd by
line_is Notes by = refl
line_is Memory by = absurd by

-- how many pages one worker drew
abbrev drawn_by : ℕ → Option FailingPage → ℕ
drawn_by pages None = pages
drawn_by pages (Some page) = page.page

drawn_is : (pages drawn : ℕ) (e : EndingValue) → IsByItsPages e → DrewUpTo pages 1 drawn e → drawn ≡ drawn_by pages (page_named e)
drawn_is pages drawn Written by reach = reach
drawn_is pages drawn Usage by reach = absurd by
drawn_is pages drawn (Document fault) by reach = absurd by
drawn_is pages drawn (Page page) by reach = let high : drawn ≤ page.page = reach.1 in omega (arith, reach.0, high)
drawn_is pages drawn (Source page) by reach = absurd by
drawn_is pages drawn Input by reach = absurd by
drawn_is pages drawn (Output page) by reach = absurd by
drawn_is pages drawn Notes by reach = reach
drawn_is pages drawn Memory by reach = absurd by

not_cut : (n : ℕ) → AtPage n → WasNotCutOffBy n
not_cut n (inl three) = (λ is. let e : 3 ≡ 5 = sym three ∙ is in cc, λ is. let e : 3 ≡ 9 = sym three ∙ is in cc)
not_cut n (inr four) = (λ is. let e : 4 ≡ 5 = sym four ∙ is in cc, λ is. let e : 4 ≡ 9 = sym four ∙ is in cc)

not_cut_off : (e : EndingValue) → IsByItsPages e → WasNotCutOffBy (status_of e)
not_cut_off Written by = (λ is. cc, λ is. cc)
not_cut_off Usage by = absurd by
not_cut_off (Document fault) by = absurd by
not_cut_off (Page page) by = not_cut (page_status page.fault) (at_page page.fault)
not_cut_off (Source page) by = absurd by
not_cut_off Input by = absurd by
not_cut_off (Output page) by = absurd by
not_cut_off Notes by = (λ is. cc, λ is. cc)
not_cut_off Memory by = absurd by

-- ---- the tally

-- there is one
tally_there : (counted : Bool) (Are : List DrawnValue → Type 0) (old new : Option (List ℕ)) (history : List Call) (tally : Option Tally) (e : EndingValue) (values : List PageValue) → IsByItsPages e
    → TallyMatchesRun counted Are old new history tally e values → (t : Tally) × (tally ≡ Some t) × TallyMatches counted Are old new t e values
tally_there counted Are old new history None e values by h = absurd (subst IsByItsPages h.0 by)
tally_there counted Are old new history (Some t) e values by h = (t, refl, h)

-- how many pages it has
abbrev pages_by : List PageValue → Option FailingPage → ℕ → Type 0
pages_by values None pages = pages ≡ length (whole_pages values)
pages_by values (Some page) pages = page.page ≡ suc pages

tally_is : (counted : Bool) (Are : List DrawnValue → Type 0) (old new : Option (List ℕ)) (t : Tally) (e : EndingValue) (values : List PageValue) → IsByItsPages e → TallyMatches counted Are old new t e values → pages_by values (page_named e) t.pages
tally_is counted Are old new t Written values by h = h.written
tally_is counted Are old new t Usage values by h = absurd by
tally_is counted Are old new t (Document fault) values by h = absurd by
tally_is counted Are old new t (Page page) values by h = h.next
tally_is counted Are old new t (Source page) values by h = absurd by
tally_is counted Are old new t Input values by h = absurd by
tally_is counted Are old new t (Output page) values by h = absurd by
tally_is counted Are old new t Notes values by h = h.written
tally_is counted Are old new t Memory values by h = absurd by

one_count : (v w : List PageValue) (named : Option FailingPage) (m n : ℕ) → whole_pages v ≡ whole_pages w → pages_by v named m → pages_by w named n → m ≡ n
one_count v w None m n same a b = a ∙ ap length same ∙ sym b
one_count v w (Some page) m n same a b = omega (arith, a, b)

-- ---- the report

asked_alike : (b : Bool) (x y : List ℕ) → (b ≡ true → x ≡ y) → if_asked b x ≡ if_asked b y
asked_alike true x y same = same refl
asked_alike false x y same = refl

module _ (settings : Settings) (t u : Tally) (loads n : ℕ) (history calls : List Call) (e f : EndingValue) (pages : t.pages ≡ u.pages) (black : settings.summary ≡ true → t.black ≡ u.black) (same : history ≡ calls) (line : line_of e ≡ line_of f) (alike : loads ≡ n) where
  abbrev counts : ℕ → ℕ → ℕ → Counts
  counts p l b = record { pages = p; loads = l; black = b }

  counts_alike : settings.summary ≡ true → counts_of t loads ≡ counts_of u n
  counts_alike asked =
      ap (λ (p : ℕ). counts p loads t.black) pages ∙ (ap (λ (l : ℕ). counts u.pages l t.black) alike ∙ ap (λ (b : ℕ). counts u.pages n b) (black asked))

  summary_alike : if_asked settings.summary (summary_text (counts_of t loads) history) ≡ if_asked settings.summary (summary_text (counts_of u n) calls)
  summary_alike = asked_alike settings.summary (summary_text (counts_of t loads) history) (summary_text (counts_of u n) calls) (λ asked. ap₂ summary_text (counts_alike asked) same)

  report_alike : report_text settings (Some t) loads history e ≡ report_text settings (Some u) n calls f
  report_alike =
      ap₂ (λ (x y : List ℕ). x ++ y) (ap₂ (λ (x y : List ℕ). x ++ y) (ap (λ (h : List Call). if_asked settings.trace (trace_text h)) same) summary_alike) line

-- ---- two runs

-- one list begins with the other
no_longer : (v rest : List PageValue) → length (v ++ rest) ≤ length v → v ++ rest ≡ v
no_longer v [] le = append-nil v
no_longer v (x ∷ rest) le = let size = length-append v (x ∷ rest) in absurd (omega (arith, le, size))

module _ (reading : OneReading) (one : OneRun) (g : Setup) (files : FileTable) (known : g.library ≡ Some files) (bytes : List ℕ) (r s : Reading) (v w : List PageValue) (a : IsRun g bytes r v) (b : IsRun g bytes s w) where
  same_end : (x y : Option FailingPage) → run_fault v ≡ x → run_fault w ≡ y → (x ≡ None → length v ≡ pages_begun r) → (y ≡ None → length w ≡ pages_begun s) → x ≡ y
  same_end None None is other whole all = refl
  same_end None (Some q) is other whole all =
      let good : run_fault w ≡ None = all_good reading one g files known bytes r s v w (record { run = a; all = whole refl }) is b in
      absurd (let e : Some q ≡ None = sym other ∙ good in cc)
  same_end (Some p) None is other whole all =
      let good : run_fault v ≡ None = all_good reading one g files known bytes s r w v (record { run = b; all = all refl }) other a in
      absurd (let e : Some p ≡ None = sym is ∙ good in cc)
  same_end (Some p) (Some q) is other whole all = ap Some (ends_once reading one g files known bytes r s v w p q a b is other)

  same_reading : r ≡ s
  same_reading = reading g bytes r s v w a b

  same_whole : (x : Option FailingPage) → run_fault v ≡ x → run_fault w ≡ x → (x ≡ None → length v ≡ pages_begun r) → (x ≡ None → length w ≡ pages_begun s) → whole_pages v ≡ whole_pages w
  same_whole None is other whole all =
      let few : length v ≤ length w = (let p = whole refl in let q = all refl in let same = ap pages_begun same_reading in omega (arith, p, q, same)) in
      let more = one g files bytes r s v w known a b few in
      let none : length w ≤ length v = (let p = whole refl in let q = all refl in let same = ap pages_begun same_reading in omega (arith, p, q, same)) in
      ap whole_pages (sym (no_longer v more.0 (subst (λ (l : List PageValue). length l ≤ length v) more.1 none)) ∙ sym more.1)
  same_whole (Some p) is other whole all = elim (cases_lt (length v) (length w)) [
    | inl shorter ↦
        let more = one g files bytes r s v w known a b (omega (arith, shorter)) in
        sym (ap whole_pages more.1 ∙ none_after_fault v more.0 p is)
    | inr longer ↦
        let more = one g files bytes s r w v known b a longer in
        ap whole_pages more.1 ∙ none_after_fault w more.0 p other
  ]

-- the look-ups of some pages
same_keys : (one : PagesHaveOneValue) (g : Setup) (files : FileTable) (known : g.library ≡ Some files) (r : Reading) (pages : List ℕ) (keys others : List FontKey) → WholeLooks (finding g r) (indexed_of g r) g.sheet pages keys
    → WholeLooks (finding g r) (indexed_of g r) g.sheet pages others → keys ≡ others
same_keys one g files known r [] keys others a b = a ∙ sym b
same_keys one g files known r (p ∷ pages) keys others a b =
    let u = a.3.1.units in
    let is = a.3.1.of_document in
    let here = one files u (indexed_of g r) g.sheet p a.3.0 b.3.0 a.0 b.0 (found one g files known r p a.3.0 a.0 u is a.3.1) (found one g files known r p b.3.0 b.0 u is b.3.1) in
    a.2 ∙ (ap₂ (λ (x y : List FontKey). x ++ y) here.1 (same_keys one g files known r pages a.1 b.1 a.4 b.4) ∙ sym b.2)

pub one_worker : (F G : Type 0) → OneReading → OneRun → PagesHaveOneValue → OneWeightInALibrary → RunsOfOneWorkerAreAlike F G
one_worker F G reading one law weights task files bytes output other before after was now history calls e f tally t single known long size by also a b =
    let g = setup_of task in
    let x = fault_is output.before output.after a.0 a.1 e by a.3.0 in
    let y = fault_is other.before other.after b.0 b.1 f also b.3.0 in
    let end : page_named e ≡ page_named f =
    same_end reading one g files known bytes a.0 b.0 a.1 b.1 a.2 b.2 (page_named e) (page_named f) x y (whole_is output.before output.after a.0 a.1 e by a.3.0) (whole_is other.before other.after b.0 b.1 f also b.3.0) in
    let same : a.0 ≡ b.0 = same_reading reading one g files known bytes a.0 b.0 a.1 b.1 a.2 b.2 in
    let d = one_of after 0 (omega (arith, long)) in
    let c = one_of now 0 (omega (arith, size)) in
    let below : 0 < task.settings.workers = omega (arith, single) in
    let ours = subst (λ (m : ℕ). WorkersDrew (pages_begun a.0) m e tally after) single a.3.2 in
    let theirs = subst (λ (m : ℕ). WorkersDrew (pages_begun b.0) m f t now) single b.3.2 in
    let drawn : ours.drawn ≡ theirs.drawn =
    drawn_is (pages_begun a.0) ours.drawn e by ours.reach ∙ (ap₂ drawn_by (ap pages_begun same) end ∙ sym (drawn_is (pages_begun b.0) theirs.drawn f also theirs.reach)) in
    let pages : (get_or after 0 d).pages.items ≡ (get_or now 0 c).pages.items =
    same_pages theirs.drawn (λ k. (get_or after k d).pages.items) (λ k. (get_or now k c).pages.items) (subst (λ (m : ℕ). ArePartitioned m 1 (λ k. (get_or after k d).pages.items)) drawn (ours.shares d)) (theirs.shares c) in
    let p = a.3.3 0 d below in
    let q = b.3.3 0 c below in
    let looked = p.through (inr (single, not_cut_off e by)) in
    let others = q.through (inr (single, not_cut_off f also)) in
    let keys : p.keys ≡ q.keys =
    same_keys law g files known b.0 (get_or now 0 c).pages.items p.keys q.keys
    (subst (λ (ps : List ℕ). WholeLooks (finding g b.0) (indexed_of g b.0) g.sheet ps p.keys) pages (subst (λ (r : Reading). WholeLooks (finding g r) (indexed_of g r) g.sheet (get_or after 0 d).pages.items p.keys) same looked)) others in
    let w = weigh_alike weights g files known b.0 (get_or now 0 c).pages.items q.keys (own 1 history) (own 1 calls) others (subst (λ (ks : List FontKey). SeatCalls ks (own 1 history)) keys p.answered) q.answered
    (subst (λ (r : Reading). AllWeigh (IsWeightOf g.library (document_units g.res r)) (own 1 history)) same p.weighed) q.weighed in
    let calls_are : history ≡ calls = p.one single (not_cut_off e by) w.0 w.1 ∙ (ap (solo_history (cache_limits task.settings) 1 w.0) keys ∙ sym (q.one single (not_cut_off f also) w.0 w.2)) in
    let own_alike : own 1 history ≡ own 1 calls = ap (own 1) calls_are in
    let loads_are : (get_or after 0 d).loads ≡ (get_or now 0 c).loads =
    same_loads _ _ (inr (single, not_cut_off e by)) (inr (single, not_cut_off f also)) g files known b.0 (get_or now 0 c).pages.items q.keys (own 1 calls) (get_or after 0 d).loads (get_or now 0 c).loads others q.answered
    (subst (λ (cs : List Call). LoadsAreOf (EveryPageCameToItsEndBy task.settings.workers (status_of e)) g b.0 cs (get_or after 0 d).loads) own_alike
    (subst (λ (r : Reading). LoadsAreOf (EveryPageCameToItsEndBy task.settings.workers (status_of e)) g r (own 1 history) (get_or after 0 d).loads) same p.loads)) q.loads in
    let loads : loads_of 1 after ≡ loads_of 1 now = one_loads after d long ∙ (loads_are ∙ sym (one_loads now c size)) in
    let ta = tally_there task.settings.summary (λ ps. output.whole ≡ ps) output.before output.after history tally e a.1 by a.3.1 in
    let tb = tally_there task.settings.summary (λ ps. other.whole ≡ ps) other.before other.after calls t f b.1 also b.3.1 in
    let whole : whole_pages a.1 ≡ whole_pages b.1 =
    same_whole reading one g files known bytes a.0 b.0 a.1 b.1 a.2 b.2 (page_named e) x (y ∙ sym end) (whole_is output.before output.after a.0 a.1 e by a.3.0) (λ none. whole_is other.before other.after b.0 b.1 f also b.3.0 (sym end ∙ none)) in
    let count : ta.0.pages ≡ tb.0.pages =
    one_count a.1 b.1 (page_named e) ta.0.pages tb.0.pages whole (tally_is task.settings.summary (λ ps. output.whole ≡ ps) output.before output.after ta.0 e a.1 by ta.2)
    (subst (λ (named : Option FailingPage). pages_by b.1 named tb.0.pages) (sym end) (tally_is task.settings.summary (λ ps. other.whole ≡ ps) other.before other.after tb.0 f b.1 also tb.2)) in
    let black : task.settings.summary ≡ true → ta.0.black ≡ tb.0.black =
    λ asked. ta.2.black asked ∙ (ap₂ (λ (m : ℕ) (ps : List DrawnValue). sum_by black_in (take m ps)) count whole ∙ sym (tb.2.black asked)) in
    let written : output.whole ≡ other.whole = ta.2.are ∙ (ap₂ (λ (m : ℕ) (ps : List DrawnValue). take m ps) count whole ∙ sym tb.2.are) in
    let line : line_of e ≡ line_of f = line_is e by ∙ (ap line_by end ∙ sym (line_is f also)) in (
      end,
      calls_are,
      loads,
      ap₂ (λ (x y : List ℕ). x ++ y) (ap lacks_text written)
          (subst (λ (o : Option Tally). report_text task.settings o (loads_of 1 after) history e ≡ report_text task.settings t (loads_of 1 now) calls f) (sym ta.1)
          (subst (λ (o : Option Tally). report_text task.settings (Some ta.0) (loads_of 1 after) history e ≡ report_text task.settings o (loads_of 1 now) calls f) (sym tb.1)
          (report_alike task.settings ta.0 tb.0 (loads_of 1 after) (loads_of 1 now) history calls e f count black calls_are line loads))),
    )
