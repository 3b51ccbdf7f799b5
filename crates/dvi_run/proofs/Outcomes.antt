-- From the parts of a run to how it ends.
use Rattle.std.proofs.Common.{inl, inr, ℕ, List, Option}
use Rattle.page_index.specs.Document.{IsDocument, Reading}
use Rattle.page_index.specs.Faults.{IsFirstFault}
use Rattle.page_draw.specs.Values.{PageValue}
use Rattle.dvi_run.specs.Reading.{IsRead}
use Rattle.dvi_run.specs.Pages.{AreValues, Setup}
use Rattle.dvi_run.specs.Endings.{EndingValue, Written, Usage, Document, Page, Source, Input, Output, Notes, Memory, EndsBytes, EndsPages, IsEnding, HoldsOfDocument, Stopped, Wrote, WroteBefore, WrotePrefix, WroteSome}
use Rattle.dvi_run.proofs.InputRead.{of_read}

module _ (old new : Option (List ℕ)) (OutputFailed SourceFailed OutputKept : Type 0) (g : Setup) where
  -- the pages of a document were written, or some of them
  pub pages_end : (bytes : List ℕ) (reading : Reading) (values : List PageValue) → IsDocument g.res bytes reading → AreValues g reading values
      → (e : EndingValue) → EndsPages old new OutputFailed SourceFailed e reading values → EndsBytes old new OutputFailed SourceFailed OutputKept g bytes e
  pages_end bytes reading values document are Written h = (reading, values, record { document = document; pages = are }, h)
  pages_end bytes reading values document are (Page page) h = (reading, values, record { document = document; pages = are }, h)
  pages_end bytes reading values document are (Source page) h = ((reading, values, record { document = document; pages = are }, h.0), h.1)
  pages_end bytes reading values document are (Output page) h = ((reading, values, record { document = document; pages = are }, h.0), h.1)
  pages_end bytes reading values document are Notes h = (reading, values, record { document = document; pages = are }, h)
  pages_end bytes reading values document are Memory h = inr (reading, values, record { document = document; pages = are }, h)
  pages_end bytes reading values document are Usage h = absurd h
  pages_end bytes reading values document are (Document fault) h = absurd h
  pages_end bytes reading values document are Input h = absurd h

  -- the bytes were read before
  pub bytes_end : (InputFailed : Type 0) (left rest : Option (List ℕ)) (bytes : List ℕ) → IsRead left rest bytes
      → (e : EndingValue) → EndsBytes old new OutputFailed SourceFailed OutputKept g bytes e → IsEnding old new OutputFailed SourceFailed OutputKept InputFailed g left e
  bytes_end I left rest bytes read Written h = of_read (λ bytes. HoldsOfDocument g bytes (Wrote old new)) left rest bytes read h
  bytes_end I left rest bytes read (Document fault) h =
      (of_read (λ bytes. IsFirstFault g.res bytes fault) left rest bytes read h.0, h.1)
  bytes_end I left rest bytes read (Page page) h =
      of_read (λ bytes. HoldsOfDocument g bytes (λ _. Stopped old new page)) left rest bytes read h
  bytes_end I left rest bytes read (Source page) h =
      (of_read (λ bytes. HoldsOfDocument g bytes (WroteBefore old new page)) left rest bytes read h.0, h.1)
  bytes_end I left rest bytes read (Output page) h =
      (of_read (λ bytes. HoldsOfDocument g bytes (λ _. WrotePrefix old new page)) left rest bytes read h.0, h.1)
  bytes_end I left rest bytes read Notes h = of_read (λ bytes. HoldsOfDocument g bytes (Wrote old new)) left rest bytes read h
  bytes_end I left rest bytes read Memory (inl same) = inl same
  bytes_end I left rest bytes read Memory (inr h) = inr (of_read (λ bytes. HoldsOfDocument g bytes (λ _. WroteSome old new)) left rest bytes read h)
  bytes_end I left rest bytes read Usage h = absurd h
  bytes_end I left rest bytes read Input h = absurd h
