-- The loads of a worker, by the files that its look-ups looked for.
use Rattle.std.proofs.Common.{◌≡◌, ℕ, List, [], Option, Some, None, refl, arith}
use Rattle.std.specs.Prelude.{IfSome}
use Rattle.outside.specs.Library.{FileTable}
use Rattle.pixel_round.specs.declared.units.Units.{Units}
use Rattle.cache_core.specs.declared.calls.Call.{Call}
use Rattle.font_decode.specs.Desks.{LoadedFiles, files_loaded}
use Rattle.page_index.specs.Document.{Reading}
use Rattle.page_index.specs.Pages.{document_units}
use Rattle.dvi_run.specs.Pages.{Setup}
use Rattle.dvi_run.specs.Rounds.{LoadsAreOf}

-- so many files, where the library is known
abbrev Files : Type 0 → Option FileTable → Option Units → (FileTable → Units → ℕ) → ℕ → Type 0
Files W o v n loads = IfSome o (λ l. IfSome v (λ u. LoadedFiles W (n l u) 0 loads))

-- no more in any case, and just these where all was answered
both : (W : Type 0) (o : Option FileTable) (v : Option Units) (n : FileTable → Units → ℕ) (loads : ℕ) → Files ⊥ o v n loads → (W → Files (Unit {0}) o v n loads) → Files W o v n loads
both W None v n loads p q = tt
both W (Some l) None n loads p q = tt
both W (Some l) (Some u) n loads p q = record { most = p.most; just = λ w. (q w).just tt }

less : (V W : Type 0) (o : Option FileTable) (v : Option Units) (n : FileTable → Units → ℕ) (loads : ℕ) → (V → W) → Files W o v n loads → Files V o v n loads
less V W None v n loads f p = tt
less V W (Some l) None n loads f p = tt
less V W (Some l) (Some u) n loads f p = record { most = p.most; just = λ w. p.just (f w) }

none : (W : Type 0) (o : Option FileTable) (v : Option Units) (n : FileTable → Units → ℕ) (loads : ℕ) → ((l : FileTable) (u : Units) → n l u ≡ 0) → loads ≡ 0 → Files W o v n loads
none W None v n loads zero is = tt
none W (Some l) None n loads zero is = tt
none W (Some l) (Some u) n loads zero is = let z = zero l u in record { most = omega (arith, is, z); just = λ w lt. omega (arith, is, z) }

module _ (g : Setup) (reading : Reading) where
  pub loads_settled : (W : Type 0) (calls : List Call) (loads : ℕ) → LoadsAreOf ⊥ g reading calls loads → (W → LoadsAreOf (Unit {0}) g reading calls loads) → LoadsAreOf W g reading calls loads
  loads_settled W calls loads p q = record {
    few = p.few;
    files = both W g.library (document_units g.res reading) (λ l u. files_loaded l u calls) loads p.files (λ w. (q w).files);
  }

  pub loads_as : (V W : Type 0) (calls : List Call) (loads : ℕ) → (V → W) → LoadsAreOf W g reading calls loads → LoadsAreOf V g reading calls loads
  loads_as V W calls loads f p = record { few = p.few; files = less V W g.library (document_units g.res reading) (λ l u. files_loaded l u calls) loads f p.files }

  pub no_loads : (W : Type 0) (loads : ℕ) → loads ≡ 0 → LoadsAreOf W g reading [] loads
  no_loads W loads is = record { few = omega (arith, is); files = none W g.library (document_units g.res reading) (λ l u. files_loaded l u []) loads (λ l u. refl) is }
