-- A command as the device gets it. The device keeps a saved session in its slot, but must not accept
-- the session until its context is loaded. So the layer hides the session: in the buffer that the
-- device gets, the handle of a saved session names nothing. The device then refuses the command as
-- if the session did not exist. TPM 2.0 Library, Part 1, section 30.5 (session context management).
use Rattle.std.specs.Prelude.{ℕ, ◌+◌, ◌*◌, ◌==◌, ◌&&◌, ◌||◌, nat_le, nat_lt, not, Bool, true, false, List, [], ◌∷◌, ◌++◌, drop, length, take, slice_set, if◌then◌else◌, Option}
use Rattle.std.specs.Int.{w16, w32, from_be_bytes}
use Rattle.std.specs.List.{find}
use Rattle.std.specs.Option.{option_map_or}
use Rattle.tpm_commands.specs.CommandCode.{code_named, handle_count}
use Rattle.tpm_types_common.specs.Handle.{is_session, numbered_handle}
use Rattle.tpm_types_common.specs.Limits.{buffer_limit}
use Rattle.tpm_types_common.specs.declared.handle.Handle.{Handle}
use Rattle.tpm_step.specs.step.Events.{PlainEvent, Given, Cycled, Placed}
use Rattle.tpm_completion.specs.Completion.{session_context}
use Rattle.tpm_completion.specs.Saving.{place_named}
use Rattle.tpm_completion.specs.declared.completion.Completion.{Completion}

-- ---- numbers in a buffer

-- the number of two bytes at an offset; 0 if the buffer ends before
unfoldable pub short_at : List ℕ → (place : ℕ) → ℕ
short_at buffer place =
    if nat_le (place + 2) (length buffer) then from_be_bytes w16 (take 2 (drop place buffer)) else 0

-- the number of four bytes at an offset; 0 if the buffer ends before
unfoldable pub long_at : List ℕ → (place : ℕ) → ℕ
long_at buffer place =
    if nat_le (place + 4) (length buffer) then from_be_bytes w32 (take 4 (drop place buffer)) else 0

-- ---- where a command has handles of sessions

-- the number of handles of the command with this code: a command on sequence objects, or a command
-- of the device
unfoldable pub handles_of : (code : ℕ) → ℕ
handles_of code =
    if code == 0x185 then 2
    else (if code == 0x13e || (code == 0x15b || code == 0x15c) then 1
    else option_map_or handle_count (code_named code) 0)

-- the offset, if the test holds
abbrev pub place_if : Bool → (place : ℕ) → List ℕ
place_if true place = place ∷ []
place_if false place = []

-- the offsets of at most three handles after the header
abbrev pub handle_places : (count : ℕ) → List ℕ
handle_places count =
    place_if (nat_lt 0 count) 10 ++ (place_if (nat_lt 1 count) 14 ++ place_if (nat_lt 2 count) 18)

-- the offset after the entry at an offset: its handle, its nonce, its attributes and its HMAC
abbrev pub after_entry : List ℕ → (place : ℕ) → ℕ
after_entry buffer place =
    let nonce : ℕ = short_at buffer (place + 4) in
    place + 9 + nonce + short_at buffer (place + 7 + nonce)

-- the offsets of at most three entries before `end`, the first of which is at an offset
abbrev pub places_before : List ℕ → (end place : ℕ) → List ℕ
places_before buffer end place =
    let second : ℕ = after_entry buffer place in
    let third : ℕ = after_entry buffer second in
    place_if (nat_lt place end) place
    ++ (place_if (nat_lt second end) second ++ place_if (nat_lt third end) third)

-- the offsets of the entries in the authorization area at an offset
abbrev pub entry_places : List ℕ → (place : ℕ) → List ℕ
entry_places buffer place = places_before buffer (place + 4 + long_at buffer place) (place + 4)

-- the offsets of the entries of a command with this many handles; a command without sessions has no
-- entries
abbrev pub entries_after : List ℕ → (count : ℕ) → List ℕ
entries_after buffer count =
    if short_at buffer 0 == 0x8002 then entry_places buffer (10 + 4 * count) else []

-- the offsets at which a command may have the handle of a session
unfoldable pub session_places : List ℕ → List ℕ
session_places buffer =
    let count : ℕ = handles_of (long_at buffer 6) in
    handle_places count ++ entries_after buffer count

-- ---- hiding a session

-- whether a handle is that of a saved session
abbrev pub names_saved : Completion → Handle → Bool
names_saved c handle = is_session handle && not (session_context c (place_named handle) == 0)

-- whether the handle at an offset is that of a saved session. A buffer that is longer than every
-- command has no such handle
unfoldable pub is_saved_at : Completion → List ℕ → (place : ℕ) → Bool
is_saved_at c buffer place =
    nat_le (length buffer) buffer_limit
    && (nat_le (place + 4) (length buffer)
    && names_saved c (numbered_handle (long_at buffer place)))

-- the offset of the first handle of a saved session
abbrev pub saved_place : Completion → List ℕ → Option ℕ
saved_place c buffer = find (is_saved_at c buffer) (session_places buffer)

-- the buffer in which the handle at an offset names nothing: it keeps its type, and no session has
-- the slot FFFFFF
abbrev pub hidden_at : List ℕ → (place : ℕ) → List ℕ
hidden_at buffer place =
    slice_set (slice_set (slice_set buffer (place + 1) 255) (place + 2) 255) (place + 3) 255

-- the buffer that the device gets for a client's command
abbrev pub heard_buffer : Completion → List ℕ → List ℕ
heard_buffer c buffer = option_map_or (hidden_at buffer) (saved_place c buffer) buffer

-- the event that the device gets for an event with the layer
abbrev pub heard : Completion → PlainEvent → PlainEvent
heard c (Given buffer locality elapsed random) =
    Given (heard_buffer c buffer) locality elapsed random
heard c Cycled = Cycled
heard c (Placed object) = Placed object

-- the event that the device gets: with the layer if `completes` is true, otherwise without it
abbrev pub heard_if : (completes : Bool) → Completion → PlainEvent → PlainEvent
heard_if false c event = event
heard_if true c event = heard c event
