use Rattle.std.proofs.Common.{◌∙◌, ◌&&◌, refl, codes}
use Rattle.pixel_round.specs.Limits.{MAX_RESOLUTION}
use Rattle.raster_page.specs.Limits.{MAX_PAGE_SIDE}
use Rattle.command_line.proofs.Short.{is_few, regrouped, room_short, same_short}
use Rattle.command_line.proofs.matches.are_short.Goals as goal

pub returns : goal.returns
returns c us hold =
    let s1 = c.is_short.ensures ∙ same_short (codes "res") us _
    (hold.number (codes "res") (1, MAX_RESOLUTION) refl) in
    let s2 = c.is_short-2.ensures ∙ same_short (codes "width") us _
    (hold.number (codes "width") (1, MAX_PAGE_SIDE) refl) in
    let s3 = c.is_short-3.ensures ∙ same_short (codes "height") us _
    (hold.number (codes "height") (1, MAX_PAGE_SIDE) refl) in
    let s4 = c.is_short-4.ensures ∙ same_short (codes "left") us _
    (hold.number (codes "left") (0, MAX_PAGE_SIDE) refl) in
    let s5 = c.is_short-5.ensures ∙ same_short (codes "top") us _
    (hold.number (codes "top") (0, MAX_PAGE_SIDE) refl) in
    let s6 = c.is_short-6.ensures ∙ same_short (codes "workers") us _
    (hold.number (codes "workers") (1, 32) refl) in
    let s7 = c.is_short-7.ensures ∙ same_short (codes "cache") us _
    (hold.number (codes "cache") (1, 256) refl) in
    let s8 = c.is_short-8.ensures ∙ same_short (codes "sample") us _
    (hold.number (codes "sample") (1, 1000) refl) in
    (λ i. (((((((s1 i && s2 i) && s3 i) && s4 i) && s5 i) && s6 i) && s7 i) && s8 i))
    ∙ regrouped (is_few (codes "res") us) (is_few (codes "width") us)
    (is_few (codes "height") us) (is_few (codes "left") us) (is_few (codes "top") us)
    (is_few (codes "workers") us) (is_few (codes "cache") us) (is_few (codes "sample") us) _
    (room_short us _ hold)
