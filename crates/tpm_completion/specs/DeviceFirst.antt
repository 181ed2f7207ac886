-- The client gets the device's response, with two exceptions (`DeviceFirst`).
use Rattle.std.specs.Prelude.{◌≡◌, ℕ, ◌/◌, ◌^◌, ◌==◌, ◌&&◌, ◌||◌, Bool, false, List, [], None, Result, Ok, Err}
use Rattle.std.specs.Str.{bytes_eq}
use Rattle.tpm_bytes.specs.declared.cursor.Short.{Short}
use Rattle.tpm_record.specs.Record.{Record}
use Rattle.tpm_step.specs.step.Answer.{framed_message}
use Rattle.tpm_completion.specs.Answer.{is_refusal}
use Rattle.tpm_completion.specs.Capability.{asked_at}
use Rattle.tpm_completion.specs.Command.{Command, plain_command}
use Rattle.tpm_completion.specs.Loading.{context_asked}
use Rattle.tpm_completion.specs.Reply.{reply, stands}
use Rattle.tpm_completion.specs.Sending.{sent_for}
use Rattle.tpm_completion.specs.declared.capability.Asked.{Asked}
use Rattle.tpm_completion.specs.declared.completion.Completion.{Completion}

-- whether a response is a refusal after which the layer may answer: COMMAND_CODE, VALUE or HANDLE
-- for parameter 1, or BAD_TAG
abbrev pub is_gap : List ℕ → Bool
is_gap response =
    is_refusal 0x143 response
    || (is_refusal 0x1c4 response
    || (is_refusal 0x1cb response || bytes_eq response (framed_message 0xc4 0x1e [])))

-- whether TPM2_GetCapability asks for something that the layer lists: commands, properties, loaded
-- sessions, saved sessions or transient objects
abbrev pub has_list : Asked → Bool
has_list asked =
    (asked.capability == 2)
    || ((asked.capability == 6)
    || ((asked.capability == 1)
    && ((asked.property / 2 ^ 24 == 0x02)
    || ((asked.property / 2 ^ 24 == 0x03) || (asked.property / 2 ^ 24 == 0x80)))))

-- whether a command is TPM2_GetCapability, and asks for something that the layer lists
abbrev pub asks_parameters : Result Asked Short → Bool
asks_parameters (Ok asked) = has_list asked
asks_parameters (Err e) = false

abbrev pub asks_command : Result Command Short → Bool
asks_command (Ok command) =
    (command.code == 0x17a) && asks_parameters (asked_at command.parameters)
asks_command (Err e) = false

abbrev pub asks_list : (buffer : List ℕ) → Bool
asks_list buffer = asks_command (plain_command buffer)

-- The client gets the device's response, byte for byte, no object is loaded, no command is sent to
-- the device, and the layer's state is unchanged. There are two exceptions: the device refused the
-- command as in `is_gap`, or it answered a TPM2_GetCapability that asks for something that the
-- layer lists.
abbrev pub DeviceFirst : Type 0
DeviceFirst =
    (r : Record) (c : Completion) (buffer response : List ℕ) (was_told : Bool)
    → is_gap response ≡ false → was_told && asks_list buffer ≡ false
    → (context_asked r buffer response ≡ None) × (sent_for r c buffer response ≡ None)
    × (reply r c buffer response was_told ≡ stands c response)
