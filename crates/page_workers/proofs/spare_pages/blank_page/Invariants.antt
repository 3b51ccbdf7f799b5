use Rattle.std.proofs.Common.{◌≤◌, length}
use Rattle.page_workers.proofs.spare_pages.blank_page.Given as goal

abbrev pub invariant-loop-page : goal.invariant-loop-page
invariant-loop-page l = length l.spare_pages.items ≤ length l.initial.spare_pages.items

abbrev pub decreases-loop-page : goal.decreases-loop-page
decreases-loop-page l = goal.left-loop-page l
