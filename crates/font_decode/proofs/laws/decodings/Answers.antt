use Rattle.font_decode.proofs.Alike.{one_of_its_files, one_in_a_library}
use Rattle.font_decode.proofs.Total.{each_key_is_decoded}
use Rattle.font_decode.proofs.Rows.{rows_determine_the_decoding}
use Rattle.font_decode.proofs.laws.decodings.Goals as goal

pub returns-clause-files : goal.returns-clause-files
returns-clause-files c = one_of_its_files

pub returns-clause-library : goal.returns-clause-library
returns-clause-library c = one_in_a_library

pub returns-clause-each : goal.returns-clause-each
returns-clause-each c = each_key_is_decoded

pub returns-clause-rows : goal.returns-clause-rows
returns-clause-rows c = rows_determine_the_decoding
