-- What the contracts say of the two structs' private fields.
use Rattle.std.specs.Prelude.{vec_items}
use Rattle.messages.specs.declared.sending.Sender.{Sender}
use Rattle.messages.specs.declared.collecting.Collector.{Collector}
use Rattle.messages.specs.SenderCalls.{SenderState}
use Rattle.messages.specs.CollectorCalls.{CollectorState}
use Rattle.messages.specs.Endings.{last_of, total_of}

-- all that a sender is made of
abbrev pub sender_state : Sender → SenderState
sender_state s = record {
  piece_length = s.piece_length.bytes;
  toggle = s.toggle;
  progress = s.progress;
  message = vec_items s.message;
}

-- all that a collector is made of
abbrev pub collector_state : Collector → CollectorState
collector_state c = record {
  piece_length = c.piece_length.bytes;
  phase = c.phase;
  toggle = c.toggle;
  there = c.pieces.there;
  last = last_of c.pieces.ending;
  total = total_of c.pieces.ending;
  bytes = vec_items c.bytes;
}
