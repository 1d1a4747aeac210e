-- One law for each way out, for the refusal and for the bytes. Assumes nothing.
use Rattle.std.proofs.Common.{◌≡◌, length, ap}
use Rattle.records.specs.Records.{form_of}
use Rattle.records.proofs.Cases.{no_room, no_room_kept, bad_write, bad_write_kept, written, written_out}
use borrow.Author.Rules.{rules}
use Rattle.records.proofs.forms.WordRecord.write.Goals as goal

pub returns-then-bytes-lt-RECORD_BYTES : goal.returns-then-bytes-lt-RECORD_BYTES
returns-then-bytes-lt-RECORD_BYTES c = record { refusal = search (no_room, no_room_kept, rules); bytes = search (no_room, no_room_kept, rules) }

pub returns-then-not-in_range : goal.returns-then-not-in_range
returns-then-not-in_range c = record { refusal = search (bad_write, bad_write_kept, rules); bytes = search (bad_write, bad_write_kept, rules) }

pub returns : goal.returns
returns c = record { refusal = search (written, written_out, rules); bytes = search (written, written_out, rules) }

pub copy_from_slice-requires : goal.copy_from_slice-requires
copy_from_slice-requires c =
    let e : length c.form-form.result ≡ length (form_of c.args.self) = ap length c.form-form.ensures.bytes in
    search (e, rules)
