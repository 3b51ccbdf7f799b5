-- How the logic stores keys.
use Rattle.std.specs.Prelude.{List}
use Rattle.std.specs.Coded.{Coded, coded_list}
use Rattle.outside.specs.declared.keys.FontKey.{FontKey}
use Rattle.outside.specs.contracts.keys.FontKey as key_row

abbrev pub key_code : Coded FontKey
key_code = key_row.the_row.coded

abbrev pub keys_code : Coded (List FontKey)
keys_code = coded_list key_code
