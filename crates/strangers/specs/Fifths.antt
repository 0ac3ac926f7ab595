-- A day in five parts, with half of the losses allowed.
use Rattle.std.specs.Prelude.{◌+◌, ◌-◌, ◌*◌, ◌/◌}
use Rattle.std.proofs.Common.{lit≤}
use Rattle.metering.specs.Limits.{block_count}
use Rattle.methodology.specs.declared.shape.Shape.{Shape}
use Rattle.methodology.specs.Meaning.{Meaning}

abbrev pub fifths_shape : Shape
fifths_shape = record { revenues = 0; intervals = 5; most = lit≤ tt; some = lit≤ tt; few = lit≤ tt }

abbrev pub fifths_meaning : Meaning
fifths_meaning =
    record {
      interval = λ block. 1 + block * 5 / block_count;
      allowed = λ sent delivered factor. delivered + (sent - delivered) / 2;
    }
