use Rattle.page_index.proofs.Ended.{page_ends, page_is, page_reads, page_within, span_of}
use Rattle.page_index.proofs.index.Index.page.Goals as goal

pub part-requires-clause-order : goal.part-requires-clause-order
part-requires-clause-order c = (span_of c.self.inside.bytes.now c.self.inside.units c.self.inside.conv c.self.inside.end c.self.inside.pages.items c.self.inside.fonts c.args.self.now c.args.i c.index.result.now c.self.invariant c.self.view_is c.requires c.index.ensures).fills.order

pub part-requires-clause-inside : goal.part-requires-clause-inside
part-requires-clause-inside c = (span_of c.self.inside.bytes.now c.self.inside.units c.self.inside.conv c.self.inside.end c.self.inside.pages.items c.self.inside.fonts c.args.self.now c.args.i c.index.result.now c.self.invariant c.self.view_is c.requires c.index.ensures).fills.inside

pub returns-clause-commands : goal.returns-clause-commands
returns-clause-commands c =
    page_is c.self.inside.bytes.now c.args.self.now.reading c.args.i c.index.result.now
    (span_of c.self.inside.bytes.now c.self.inside.units c.self.inside.conv c.self.inside.end c.self.inside.pages.items c.self.inside.fonts c.args.self.now c.args.i c.index.result.now c.self.invariant c.self.view_is c.requires c.index.ensures)
    c.part.result.at c.part.result.bytes.now c.part.ensures.at c.part.ensures.bytes

pub returns-clause-readable : goal.returns-clause-readable
returns-clause-readable c =
    page_reads c.self.inside.bytes.now c.args.self.now.reading c.args.i c.index.result.now
    (span_of c.self.inside.bytes.now c.self.inside.units c.self.inside.conv c.self.inside.end c.self.inside.pages.items c.self.inside.fonts c.args.self.now c.args.i c.index.result.now c.self.invariant c.self.view_is c.requires c.index.ensures)
    c.part.result.at c.part.result.bytes.now c.part.ensures.at c.part.ensures.bytes

pub returns-clause-ends : goal.returns-clause-ends
returns-clause-ends c =
    page_ends c.self.inside.bytes.now c.args.self.now.reading c.args.i c.index.result.now
    (span_of c.self.inside.bytes.now c.self.inside.units c.self.inside.conv c.self.inside.end c.self.inside.pages.items c.self.inside.fonts c.args.self.now c.args.i c.index.result.now c.self.invariant c.self.view_is c.requires c.index.ensures)
    c.part.result.at c.part.result.bytes.now c.part.ensures.at c.part.ensures.bytes

pub returns-clause-within : goal.returns-clause-within
returns-clause-within c =
    page_within c.self.inside.bytes.now c.args.self.now.reading c.args.i c.index.result.now
    (span_of c.self.inside.bytes.now c.self.inside.units c.self.inside.conv c.self.inside.end c.self.inside.pages.items c.self.inside.fonts c.args.self.now c.args.i c.index.result.now c.self.invariant c.self.view_is c.requires c.index.ensures)
    c.part.result.at c.part.result.bytes.now c.part.ensures.at c.part.ensures.bytes c.self.invariant.fits
