-- How the logic stores what contracts see of a seat.
use Rattle.std.specs.Prelude.{refl}
use Rattle.std.specs.Coded.{Coded, code_by, coded×}
use Rattle.atomic_table.specs.Seated.{TableId, table_id_coded}
use Rattle.page_counter.specs.declared.view.View.{View}
use Rattle.page_counter.specs.contracts.view.View.{the_row}
use Rattle.page_counter.specs.Seats.{SeatView}

abbrev pub view_code : Coded View
view_code = the_row.coded

abbrev pub seat_code : Coded SeatView
seat_code = code_by (TableId × View) (coded× table_id_coded view_code) (λ s. (s.counter, s.view))
    (λ p. record { counter = p.0; view = p.1 }) (λ _. refl)
