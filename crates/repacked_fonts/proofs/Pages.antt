-- A page has the same value over two libraries that differ in how rasters are packed.
use Rattle.std.proofs.Common.{ℕ, List, [], ◌∷◌, Option, Some, None}
use Rattle.outside.specs.Library.{FileTable}
use Rattle.outside.specs.declared.keys.FontKey.{FontKey}
use Rattle.pixel_round.specs.declared.units.Units.{Units}
use Rattle.page_index.specs.Pages.{Indexed}
use Rattle.font_decode.specs.Decoding.{IsFontOf}
use Rattle.font_decode.specs.declared.font_or_fault.Decoded.{Decoded}
use Rattle.vf_expand.specs.Course.{Course}
use Rattle.page_draw.specs.Drawn.{IsPageValue}
use Rattle.page_draw.specs.Members.{Finding, Flat, LookUp, Lack, Member, Unfolds}
use Rattle.page_draw.specs.Values.{PageValue}
use Rattle.page_draw.specs.declared.sheet.Sheet.{Sheet}
use Rattle.repacked_fonts.specs.Repacked.{DifferInPacking}
use Rattle.repacked_fonts.specs.Laws.{RepackedPagesAreTheSame}
use Rattle.repacked_fonts.proofs.Fonts.{back, carried}

font_of : (l m : FileTable) → DifferInPacking l m → (units : Option Units) (k : FontKey) (d : Decoded) → IsFontOf (Some l) units k d → IsFontOf (Some m) units k d
font_of l m alike None k d h = tt
font_of l m alike (Some u) k d h = carried l m alike u k d h

module _ (F G : Finding) (same : (k : FontKey) (d : Decoded) → F k d → G k d) where
  unfolds : (from : Course) (members : List Member) (to : Course) → Unfolds F from members to → Unfolds G from members to
  unfolds from [] to h = h
  unfolds from (Flat f g at ∷ members) to h = (h.0, h.1, unfolds h.0 members to h.2)
  unfolds from (LookUp k at ∷ members) to h = (h.0, h.1, h.2, same k h.1 h.3, unfolds (h.0 h.1) members to h.4)
  unfolds from (Lack f at ∷ members) to h = (h.0, h.1, unfolds h.0 members to h.2)

  page : (indexed : Indexed) (sheet : Sheet) (i : ℕ) (value : PageValue) (looks : List FontKey) → IsPageValue F indexed sheet i value looks → IsPageValue G indexed sheet i value looks
  page indexed sheet i value looks h = record {
    units = h.units;
    of_document = h.of_document;
    has = record {
      members = h.has.members;
      to = h.has.to;
      state = h.has.state;
      leads = unfolds _ h.has.members h.has.to h.has.leads;
      moved = h.has.moved;
      ends = h.has.ends;
      looked = h.has.looked;
    };
  }

pub repacked_pages_are_the_same : RepackedPagesAreTheSame
repacked_pages_are_the_same l m alike units indexed sheet i value looks = (
  page (IsFontOf (Some l) units) (IsFontOf (Some m) units) (font_of l m alike units) indexed sheet i value looks,
  page (IsFontOf (Some m) units) (IsFontOf (Some l) units) (font_of m l (back l m alike) units) indexed sheet i value looks,
)
