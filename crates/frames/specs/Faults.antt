-- The refusals that the faults of a frame are.
use Rattle.modes.specs.Modes.{occupancy_number, tis_number, data_number}
use Rattle.refusals.specs.declared.Refusal.{Refusal}
use Rattle.refusals.specs.declared.Refusal.TheVariants.{MisBeyondReach, BadMis, OtherMode as OtherModeRefusal, TisBeyondReach, BadTis, OtherDataCoding as OtherDataCodingRefusal, DataBeyondReach, BadPacket}
use Rattle.modem.specs.declared.fault.StreamFault.{StreamFault}
use Rattle.modem.specs.declared.fault.StreamFault.TheVariants.{Reach, Record}
use Rattle.frames.specs.declared.fault.FrameFault.{FrameFault}
use Rattle.frames.specs.declared.fault.FrameFault.TheVariants.{Mis, OtherMode, Tis, OtherDataCoding, Data, Packet}

abbrev pub mis_refusal : StreamFault → Refusal
mis_refusal (Reach f) = MisBeyondReach
mis_refusal (Record f) = BadMis

abbrev pub tis_refusal : StreamFault → Refusal
tis_refusal (Reach f) = TisBeyondReach
tis_refusal (Record f) = BadTis

-- the refusal that a fault of the frame is, by the stream that it names
abbrev pub refusal_of : FrameFault → Refusal
refusal_of (Mis f) = mis_refusal f
refusal_of (OtherMode mis) = OtherModeRefusal (occupancy_number mis.occupancy) (tis_number mis.tis) (data_number mis.«data»)
refusal_of (Tis f) = tis_refusal f
refusal_of OtherDataCoding = OtherDataCodingRefusal
refusal_of (Data lost) = DataBeyondReach lost.word
refusal_of (Packet f) = BadPacket
