-- A file of which some items were read.
use Rattle.std.proofs.Common.{◌≡◌, ◌∙◌, inr, ℕ, true, false, List, ◌∷◌, ◌++◌, drop, None, sym, ap, append_assoc}
use Rattle.std.proofs.lemmas.Bool.{true≢false}
use Rattle.pk_packets.specs.Preamble.{preamble_fault, preamble_size}
use Rattle.pk_packets.specs.Items.{IsItem, is_packet, text_of}
use Rattle.pk_packets.specs.Packets.{raster_sum}
use Rattle.pk_packets.specs.Fonts.{AreSound, Glyphs, HasGlyphsOf, IsPacketSound}
use Rattle.pk_packets.specs.Faults.{IsFirstFault, IsPacketFault}
use Rattle.pk_packets.specs.Stops.{IfFault}
use Rattle.pk_packets.specs.declared.faults.PkFault.{PkFault}
use Rattle.pk_packets.specs.declared.faults.PkStop.{PkStop}
use Rattle.pk_packets.specs.declared.faults.PkStop.TheVariants.{Fault, NoMemory}
use Rattle.pk_packets.proofs.Added.{passed_over, sum_kept}

-- items were read up to the bytes that are left; their rasters take a sum, and the font has their
-- glyphs
pub record IsReadTo (bytes rest : List ℕ) (sum : ℕ) (font : Glyphs) : Type 0 where
  pub items : List (List ℕ)
  pub begins : preamble_fault bytes ≡ None
  pub sound : AreSound items
  pub text : drop (preamble_size bytes) bytes ≡ text_of items ++ rest
  pub sum_is : sum ≡ raster_sum items
  pub glyphs : HasGlyphsOf items font

next_text : (bytes before item rest : List ℕ) (items : List (List ℕ)) → drop (preamble_size bytes) bytes ≡ text_of items ++ before → before ≡ item ++ rest
    → drop (preamble_size bytes) bytes ≡ text_of (item ∷ items) ++ rest
next_text bytes before item rest items text here = text ∙ ap (λ t. text_of items ++ t) here ∙ sym (append_assoc (text_of items) item rest)

-- a packet more
pub packet_read : (bytes before item rest : List ℕ) (sum new_sum : ℕ) (font new_font : Glyphs) (h : IsReadTo bytes before sum font) → before ≡ item ++ rest → IsItem item
    → (new_sum ≡ raster_sum (item ∷ h.items)) × IsPacketSound h.items item × HasGlyphsOf (item ∷ h.items) new_font → IsReadTo bytes rest new_sum new_font
packet_read bytes before item rest sum new_sum font new_font h here whole added = record {
  items = item ∷ h.items;
  begins = h.begins;
  sound = (h.sound, whole, λ _. added.1);
  text = next_text bytes before item rest h.items h.text here;
  sum_is = added.0;
  glyphs = added.2;
}

-- another item more
pub item_read : (bytes before item rest : List ℕ) (sum : ℕ) (font : Glyphs) → IsReadTo bytes before sum font → before ≡ item ++ rest → IsItem item → is_packet item ≡ false
    → IsReadTo bytes rest sum font
item_read bytes before item rest sum font h here whole kind = record {
  items = item ∷ h.items;
  begins = h.begins;
  sound = (h.sound, whole, λ packet. absurd (true≢false (sym packet ∙ kind)));
  text = next_text bytes before item rest h.items h.text here;
  sum_is = h.sum_is ∙ sym (sum_kept item h.items kind);
  glyphs = λ c. passed_over item h.items c _ kind (h.glyphs c);
}

-- what is wrong with a packet is the first fault
packet_first : (bytes before item rest : List ℕ) (sum : ℕ) (font : Glyphs) (f : PkFault) (h : IsReadTo bytes before sum font) → before ≡ item ++ rest → IsItem item
    → is_packet item ≡ true → IsPacketFault h.items item f → IsFirstFault bytes f
packet_first bytes before item rest sum font f h here whole kind wrong = rw h.begins (record {
  items = h.items;
  rest = before;
  sound = h.sound;
  text = h.text;
  after = inr (record { packet = item; more = rest; here = here; item = whole; kind = kind; wrong = wrong });
})

pub packet_stop : (bytes before item rest : List ℕ) (sum : ℕ) (font : Glyphs) (stop : PkStop) (h : IsReadTo bytes before sum font) → before ≡ item ++ rest → IsItem item
    → is_packet item ≡ true → IfFault stop (IsPacketFault h.items item) → IfFault stop (IsFirstFault bytes)
packet_stop bytes before item rest sum font (Fault f) h here whole kind wrong = packet_first bytes before item rest sum font f h here whole kind wrong
packet_stop bytes before item rest sum font NoMemory h here whole kind wrong = tt
