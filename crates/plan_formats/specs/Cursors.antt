-- What a step of a reader or a writer of bits does. Assumes nothing.
use Rattle.std.specs.Prelude.{◌≡◌, List, length}
use Rattle.plan_formats.specs.Bits.{Field, front}
use Rattle.plan_formats.specs.Body.{Run}
use Rattle.plan_formats.specs.declared.reader.BitReader.{BitReader}
use Rattle.plan_formats.specs.declared.writer.BitWriter.{BitWriter}

-- the reader went over these fields
pub record Took (before : BitReader) (fields : List Field) (after : BitReader) : Type 0 where
  pub bytes : after.bytes.now ≡ before.bytes.now
  pub run :
      Run (front before.bytes.now before.place) before.place fields (front before.bytes.now after.place) after.place

-- the writer wrote these fields, and left the bits before them
pub record Wrote (before : BitWriter) (fields : List Field) (after : BitWriter) : Type 0 where
  pub same_reference : after.bytes.ghost_name ≡ before.bytes.ghost_name
  pub len : length after.bytes.now ≡ length before.bytes.now
  pub run :
      Run (front before.bytes.now before.place) before.place fields (front after.bytes.now after.place) after.place
