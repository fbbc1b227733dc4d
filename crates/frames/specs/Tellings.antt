-- What a reader's answer tells, by the values that it refers to.
use Rattle.std.specs.Prelude.{Ok, Err, Result}
use Rattle.packets.specs.Packets.{carried}
use Rattle.frames.specs.Reading.{Told}
use Rattle.frames.specs.declared.fault.FrameFault.{FrameFault}
use Rattle.frames.specs.declared.reading.Heard.{Heard}

-- what is heard of a frame
abbrev pub told_of : Heard → Told
told_of h =
    record {
      stated = record { mode = h.mode; station = h.station; packet = carried h.packet };
      mis_mended = h.mended.mis;
      tis_mended = h.mended.tis;
    }

abbrev pub told : Result Heard FrameFault → Result Told FrameFault
told (Ok h) = Ok (told_of h)
told (Err fault) = Err fault
