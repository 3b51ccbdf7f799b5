use Rattle.vf_expand.proofs.PageLists.{course_is_list}
use Rattle.vf_expand.proofs.Libraries.{libraries_have_fonts, members_are_the_list, looks_are_the_pages, lists_are_followed}
use Rattle.vf_expand.proofs.WorkedPage.{the_page_is_worked}
use Rattle.vf_expand.proofs.WorkedPacket.{the_packet_is_worked, loops_are_too_deep}
use Rattle.vf_expand.proofs.laws.lists.Goals as goal

pub returns : goal.returns
returns c = record {
  courses = λ tolerant fonts reading i. course_is_list tolerant fonts reading i;
  fonts = libraries_have_fonts;
  members = members_are_the_list;
  looks = looks_are_the_pages;
  followed = lists_are_followed;
  worked = the_page_is_worked;
  packets = the_packet_is_worked;
  loops = loops_are_too_deep;
}
