-- The requests of the protocol, by the port at which they arrive. A request begins with its number.
-- Numbers are four bytes, big-endian.
use Rattle.std.specs.Prelude.{ℕ, ◌+◌, ◌==◌, ◌||◌, nat_le, nat_lt, Bool, true, false}
use Rattle.std.specs.Prelude.{List, [], ◌∷◌, drop, get_or, if◌then◌else◌}
use Rattle.std.specs.Prelude.{Option, Some, None, option_map, option_and_then, unwrap_or}
use Rattle.std.specs.Int.{w32, from_be_bytes}
use Rattle.std.specs.Option.{option_map_or}
use Rattle.tpm_simulator_protocol.specs.declared.request.Port.{Port}
use Rattle.tpm_simulator_protocol.specs.declared.request.Port.TheVariants as port
use Rattle.tpm_simulator_protocol.specs.declared.request.Request.{Request}
use Rattle.tpm_simulator_protocol.specs.declared.request.Request.TheVariants as request
use Rattle.tpm_simulator_protocol.specs.declared.request.Fate.{Fate}
use Rattle.tpm_simulator_protocol.specs.declared.request.Fate.TheVariants as fate

-- the limit of a command, and of the data of a launch, in bytes
abbrev pub command_limit : ℕ
command_limit = 4096

-- the limit of a request: a number, a locality, a size, and a command
abbrev pub request_limit : ℕ
request_limit = 4105

-- the number at the beginning of these bytes, if they include it
unfoldable pub number_at : List ℕ → Option ℕ
number_at (a ∷ b ∷ c ∷ d ∷ bytes) = Some (from_be_bytes w32 (a ∷ b ∷ c ∷ d ∷ []))
number_at bytes = None

-- the second number of a request: the size of its data, or the version of a handshake
unfoldable pub second_at : List ℕ → Option ℕ
second_at (a ∷ b ∷ c ∷ d ∷ e ∷ f ∷ g ∷ h ∷ bytes) =
    Some (from_be_bytes w32 (e ∷ f ∷ g ∷ h ∷ []))
second_at bytes = None

-- the size of the command in a request to execute one; it follows the number and the locality
unfoldable pub command_size_at : List ℕ → Option ℕ
command_size_at (a ∷ b ∷ c ∷ d ∷ l ∷ e ∷ f ∷ g ∷ h ∷ bytes) =
    Some (from_be_bytes w32 (e ∷ f ∷ g ∷ h ∷ []))
command_size_at bytes = None

-- the number of bytes that follow a size field: the field's value, or `least` if the value exceeds
-- the limit
abbrev pub following : ℕ → ℕ → ℕ
following least size = if nat_le size command_limit then size else least

-- the size of the request with this number that begins with these bytes, at the port for commands.
-- Of a command that is too long, only the header of 10 bytes belongs to the request, and of data
-- that is too long nothing
unfoldable pub command_port_size : ℕ → List ℕ → Option ℕ
command_port_size number bytes =
    if number == 8 then option_map (λ size. 9 + following 10 size) (command_size_at bytes)
    else if number == 6 then option_map (λ size. 8 + following 0 size) (second_at bytes)
    else if number == 15 || number == 16 then Some 8
    else Some 4

abbrev pub size_by : Port → ℕ → List ℕ → Option ℕ
size_by port.Commands number bytes = command_port_size number bytes
size_by port.Platform number bytes = Some 4

-- the size of the request that begins with these bytes; None if more bytes have to arrive first
abbrev pub request_size : Port → List ℕ → Option ℕ
request_size port bytes = option_and_then (λ number. size_by port number bytes) (number_at bytes)

-- ---- what a whole request means

-- whether the value of a size field exceeds the limit
abbrev pub is_too_long : Option ℕ → Bool
is_too_long size = option_map_or (λ value. nat_lt command_limit value) size false

-- the request with this number and this text, at the port for commands
unfoldable pub command_port_request : ℕ → List ℕ → Request
command_port_request number text =
    if number == 5 then request.HashStart
    else if number == 6 then request.HashData (is_too_long (second_at text))
    else if number == 7 then request.HashEnd
    else if number == 8 then request.SendCommand (get_or text 4 0) (is_too_long (command_size_at text))
    else if number == 15 then request.Handshake (unwrap_or (second_at text) 0)
    else if number == 16 then request.NoEffect
    else if number == 20 then request.SessionEnd
    else if number == 21 then request.Stop
    else request.Unknown

-- whether this number at the port for the platform is one of physical presence (3 and 4),
-- cancelling (9 and 10), NV memory (11 and 12) or the cache of keys (13 and 14)
abbrev pub is_without_effect : ℕ → Bool
is_without_effect number =
    number == 3 || number == 4 || number == 9 || number == 10
    || number == 11 || number == 12 || number == 13 || number == 14

-- the request with this number, at the port for the platform; 17 resets the host, and 18 restarts it
unfoldable pub platform_request : ℕ → Request
platform_request number =
    if number == 1 then request.PowerOn
    else if number == 2 then request.PowerOff
    else if is_without_effect number then request.NoEffect
    else if number == 17 || number == 18 then request.Reset
    else if number == 20 then request.SessionEnd
    else if number == 21 then request.Stop
    else request.Unknown

abbrev pub request_by : Port → ℕ → List ℕ → Request
request_by port.Commands number text = command_port_request number text
request_by port.Platform number text = platform_request number

-- the request with this text
abbrev pub request_of : Port → List ℕ → Request
request_of port text = request_by port (unwrap_or (number_at text) 0) text

-- the command or the data in the text of a request
abbrev pub content_of : Request → List ℕ → List ℕ
content_of (request.SendCommand locality too_long) text = drop 9 text
content_of (request.HashData too_long) text = drop 8 text
content_of request text = []

abbrev pub closes_if : Bool → Fate
closes_if true = fate.Closes
closes_if false = fate.Continues

-- what happens to the connection after the answer to a request. A request that is unknown or too
-- long, and a handshake of version 0, close it
abbrev pub fate_after : Request → Fate
fate_after (request.SendCommand locality too_long) = closes_if too_long
fate_after (request.HashData too_long) = closes_if too_long
fate_after (request.Handshake version) = closes_if (version == 0)
fate_after request.SessionEnd = fate.Closes
fate_after request.Unknown = fate.Closes
fate_after request.Stop = fate.Stops
fate_after request = fate.Continues

-- whether a connection executes no more requests
abbrev pub has_ended : Fate → Bool
has_ended fate.Continues = false
has_ended fate = true

-- whether this is the text of the last request of its stream
abbrev pub is_last : Port → List ℕ → Bool
is_last port text = has_ended (fate_after (request_of port text))
