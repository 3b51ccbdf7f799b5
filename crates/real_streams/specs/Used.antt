-- A reader and a writer of which no call was made yet.
use Rattle.std.specs.Prelude.{[], false}
use Rattle.real_streams.specs.declared.reader.FromReader.{FromReader}
use Rattle.real_streams.specs.declared.writer.UsedWriter.{UsedWriter}

abbrev pub unused_reader : {R : Type 0} → R → FromReader R
unused_reader reader =
    record {
      from = record { reader = reader; log = record { bytes = [] }; is_ended = false };
      faults = 0;
    }

abbrev pub unused_writer : {W : Type 0} → W → UsedWriter W
unused_writer writer = record { writer = writer; log = record { bytes = [] }; faults = 0 }
