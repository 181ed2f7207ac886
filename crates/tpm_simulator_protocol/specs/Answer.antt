-- The answers to requests.
use Rattle.std.specs.Prelude.{ℕ, ◌+◌, List, [], ◌++◌, length}
use Rattle.std.specs.Int.{w32, to_be_bytes}
use Rattle.tpm_simulator_protocol.specs.declared.request.Request.{Request}
use Rattle.tpm_simulator_protocol.specs.declared.request.Request.TheVariants as request

-- the limit of a response, in bytes
abbrev pub response_limit : ℕ
response_limit = 4096

-- the limit of an answer: a size, a response, and the number that ends the answer
abbrev pub answer_limit : ℕ
answer_limit = 4104

-- a number in an answer
abbrev pub number_text : ℕ → List ℕ
number_text number = to_be_bytes w32 number

-- the answer to a request that was executed with this response. A handshake returns version 1, and
-- the features 5: commands are sent unchanged, and there is a platform. The number at the end of an
-- answer is 0, and 1 if the request is unknown. The end of a session has no answer
unfoldable pub answer_of : Request → List ℕ → List ℕ
answer_of (request.SendCommand locality too_long) response =
    number_text (length response) ++ response ++ number_text 0
answer_of (request.Handshake version) response = number_text 1 ++ number_text 5 ++ number_text 0
answer_of request.SessionEnd response = []
answer_of request.Unknown response = number_text 1
answer_of request response = number_text 0
