use Rattle.std.proofs.Common.{◌≡◌, ◌+◌, ◌*◌, ◌≤◌, ◌∙◌, ◌++◌, List, length, ap, refl, arith, rules, length-append}
use Rattle.tpm_types_common.specs.declared.handle.Handle.{Handle}
use Rattle.tpm_types_command.specs.Command.{command_size, handles_text, sessions_text, whole_of}
use Rattle.tpm_types_command.proofs.CommandLaws.{command_size-is, command_written, length-handles_text, room_behind_header}
use Rattle.tpm_types_command.proofs.command_ref.CommandRef.write.Goals as goal

pub write_header-requires : goal.write_header-requires
write_header-requires g c =
    let size = c.in-Some.ensures.1 in
    let least = command_size-is (whole_of c.args.self.now) in
    (search rules, omega arith)

pub write_handles-requires : goal.write_handles-requires
write_handles-requires g c =
    let whole = whole_of c.args.self.now in
    let text = c.in-Some.ensures in
    let size = text.1 in
    let fits : length c.args.sink.now + command_size whole ≤ g.row.N = omega arith in
    let room = room_behind_header whole g.row.N c.in-Some.size c.tag.result c.args.sink.now
    c.write_header.new.sink c.write_header.ensures fits in
    let same : length c.as_slice.result.now ≡ length whole.handles =
    ap length c.as_slice.ensures.value in
    (search rules, omega arith)

pub write_sessions-requires : goal.write_sessions-requires
write_sessions-requires g c =
    let whole = whole_of c.args.self.now in
    let text = c.in-Some.ensures in
    let has = text.0 in
    let size = text.1 in
    let fits : length c.args.sink.now + command_size whole ≤ g.row.N = omega arith in
    let room = room_behind_header whole g.row.N c.in-Some.size c.tag.result c.args.sink.now
    c.write_header.new.sink c.write_header.ensures fits in
    let handles : length c.write_handles.new.sink
    ≡ length c.write_header.new.sink + 4 * length whole.handles =
    ap length c.write_handles.ensures
    ∙ length-append c.write_header.new.sink (handles_text c.as_slice.result.now)
    ∙ ap (λ n. length c.write_header.new.sink + n)
    (length-handles_text c.as_slice.result.now
    ∙ ap (λ (l : List Handle). 4 * length l) c.as_slice.ensures.value) in
    (search rules, (search rules, (has.entries, omega arith)))

pub append-requires : goal.append-requires
append-requires g c =
    let whole = whole_of c.args.self.now in
    let text = c.in-Some.ensures in
    let size = text.1 in
    let fits : length c.args.sink.now + command_size whole ≤ g.row.N = omega arith in
    let room = room_behind_header whole g.row.N c.in-Some.size c.tag.result c.args.sink.now
    c.write_header.new.sink c.write_header.ensures fits in
    let two : c.write_handles.new.sink ≡ c.write_header.new.sink ++ handles_text whole.handles =
    c.write_handles.ensures
    ∙ ap (λ (l : List Handle). c.write_header.new.sink ++ handles_text l)
    c.as_slice.ensures.value in
    let three : c.write_sessions.new.sink ≡ c.write_handles.new.sink
    ++ sessions_text whole.entries = c.write_sessions.ensures in
    let handles : length c.write_handles.new.sink
    ≡ length c.write_header.new.sink + 4 * length whole.handles =
    ap length two ∙ length-append c.write_header.new.sink (handles_text whole.handles)
    ∙ ap (λ n. length c.write_header.new.sink + n) (length-handles_text whole.handles) in
    let sessions : length c.write_sessions.new.sink
    ≡ length c.write_handles.new.sink + length (sessions_text whole.entries) =
    ap length three ∙ length-append c.write_handles.new.sink (sessions_text whole.entries) in
    (search rules, omega arith)

pub returns : goal.returns
returns g c =
    let whole = whole_of c.args.self.now in
    let text = c.in-Some.ensures in
    let has = text.0 in
    let size = text.1 in
    let fits : length c.args.sink.now + command_size whole ≤ g.row.N = omega arith in
    let two : c.write_handles.new.sink ≡ c.write_header.new.sink ++ handles_text whole.handles =
    c.write_handles.ensures
    ∙ ap (λ (l : List Handle). c.write_header.new.sink ++ handles_text l)
    c.as_slice.ensures.value in
    let three : c.write_sessions.new.sink ≡ c.write_handles.new.sink
    ++ sessions_text whole.entries = c.write_sessions.ensures in
    let written = command_written whole c.in-Some.size c.tag.result c.args.sink.now
    c.write_header.new.sink c.write_handles.new.sink c.write_sessions.new.sink c.append.new.self
    size c.tag.ensures c.write_header.ensures two three c.append.ensures in
    ((λ _. (has, fits), λ _. refl), written, tt)
