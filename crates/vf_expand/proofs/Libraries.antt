-- A page's members over a library are its list.
use Rattle.std.proofs.Common.{refl, sym, ap, subst, ◌∙◌}
use Rattle.font_decode.specs.Decoding.{AreAlike, IsFontIn}
use Rattle.font_decode.specs.declared.font_or_fault.Decoded.{Decoded}
use Rattle.font_decode.specs.declared.font_or_fault.Decoded.TheVariants as decoded
use Rattle.font_decode.proofs.Alike.{one_in_a_library}
use Rattle.font_decode.proofs.Total.{each_key_is_decoded}
use Rattle.vf_expand.specs.Course.{course_of}
use Rattle.vf_expand.specs.Members.{Unfolds, looks_of}
use Rattle.vf_expand.specs.PageLists.{PageList, list_from, no_more}
use Rattle.vf_expand.specs.Laws.{LibrariesHaveFonts, ListsAreFollowed, LooksAreThePages, MembersAreTheList}
use Rattle.vf_expand.proofs.Similar.{course_similar}
use Rattle.vf_expand.proofs.PageLists.{course_is_list, led, looks_append, to_the_end}

alike_itself : (d : Decoded) → AreAlike d d
alike_itself (decoded.Font f) = record { size = refl; widths = λ c. refl; virtual = refl; glyphs = λ c. refl; packets = λ c. refl; locals = λ n. refl; first = refl }
alike_itself (decoded.Bare f) = record { size = refl; widths = λ c. refl; virtual = refl; glyphs = λ c. refl; packets = λ c. refl; locals = λ n. refl; first = refl }
alike_itself (decoded.Fault f) = refl

pub libraries_have_fonts : LibrariesHaveFonts
libraries_have_fonts l u bytes = (λ k. (each_key_is_decoded l u k bytes).0, λ k. (each_key_is_decoded l u k bytes).1)

pub members_are_the_list : MembersAreTheList
members_are_the_list l u tolerant fonts reading i members to are leads =
    sym (course_is_list tolerant fonts reading i)
    ∙ led fonts alike_itself (IsFontIn l u) (λ k d finds. one_in_a_library l u k d (fonts k) finds (are k)) (course_of tolerant reading i) members to (course_similar tolerant reading i) leads

pub looks_are_the_pages : LooksAreThePages
looks_are_the_pages l u tolerant fonts reading i members to are leads =
    ap (λ (list : PageList). looks_of list.members) (members_are_the_list l u tolerant fonts reading i members to are leads)
    ∙ looks_append members (list_from fonts to).members

pub lists_are_followed : ListsAreFollowed
lists_are_followed l u tolerant fonts reading i are =
    let r = to_the_end fonts (IsFontIn l u) are (course_of tolerant reading i) in
    let whole = course_is_list tolerant fonts reading i in
    (r.0, subst (λ (list : PageList). Unfolds (IsFontIn l u) (course_of tolerant reading i) list.members r.0) whole r.1, r.2 ∙ ap (λ (list : PageList). no_more list.ending) whole)
