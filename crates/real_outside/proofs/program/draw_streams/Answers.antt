use denote.Param.{copied}
use denote.Exit.{yes}
use denote.Param.Send.{IsSend, arg_send, param_send}
use Rattle.real_streams.specs.contracts.fonts.OpenedFonts.{the_row as opened_row}
use Rattle.real_streams.proofs.fonts.OpenedFonts.TheSendSync.{the_send}
use Rattle.std.proofs.Common.{Option, inl, inr, map, refl, subst, rules}
use Rattle.std.specs.Option.{option_map}
use Rattle.std.specs.Prelude.{string_bytes}
use Rattle.outside.specs.Library.{FileTable}
use Rattle.real_streams.specs.Files.{cut_files}
use Rattle.real_outside.specs.Program.{KeepsWords, sources_by, streams_of}
use Rattle.real_outside.proofs.Ready.{known_by_new, ready_new}
use Rattle.real_outside.proofs.program.draw_streams.Goals as goal

pub draw_by-requires : goal.draw_by-requires
draw_by-requires g c κs within =
    let fonts_send : IsSend (opened_row (copied 4 g.row.O)) = the_send (copied 4 g.row.O) c.type_bounds.send-O in
    (search rules fits 100000 depth 60, (search rules fits 100000 depth 60, (search rules fits 100000 depth 60, (search rules fits 100000 depth 60, (search rules fits 100000 depth 60, (search rules fits 100000 depth 60, (search rules fits 100000 depth 60, (param_send _ _ (arg_send _ yes _ fonts_send), (search (rules, c.type_bounds.sync-H) fits 100000 depth 60, (refl, (refl, (c.in-Ok.ensures.count, ready_new (λ o. option_map cut_files (g.O.Opener.files o)) c.args.opener c.in-Ok.workers.items c.in-Ok.ensures))))))))))))

pub returns-in-Ok-clause-promises : goal.returns-in-Ok-clause-promises
returns-in-Ok-clause-promises g c =
    inl (
      c.in-Ok.workers.items,
      c.in-Ok.ensures,
      subst
          (λ (files : Option FileTable). KeepsWords (map string_bytes c.args.words.now) (record {
            known = files;
            streams = streams_of g.R.Read.remaining c.args.reader c.args.out c.args.notes c.draw_by.result;
            sources = sources_by (λ o. option_map cut_files (g.O.Opener.files o));
            before = c.in-Ok.workers.items;
            after = c.draw_by.result.workers.items;
            history = c.draw_by.result.history.items;
          }) c.draw_by.result.status)
          (known_by_new (λ o. option_map cut_files (g.O.Opener.files o)) c.args.opener c.in-Ok.workers.items c.in-Ok.ensures)
          c.draw_by.ensures.promises,
    )

pub returns-in-Err-clause-promises : goal.returns-in-Err-clause-promises
returns-in-Err-clause-promises g c = inr (c.not_begun.ensures.promises g.R.Read.remaining)
