-- Parameters in a line: the word for each kind, and the bytes that it encodes in a command buffer.
use Rattle.std.specs.Prelude.{ℕ, ◌==◌, ◌+◌, ◌*◌, not, if◌then◌else◌, List, ◌++◌, length, take, drop, codes}
use Rattle.std.specs.Prelude.{Some, None, Result, Ok, Err, ok_or}
use Rattle.std.specs.List.{flat_map, fold, position}
use Rattle.std.specs.Int.{Width, w8, w16, w32, w64, to_be_bytes}
use Rattle.tpm_bytes.specs.Reading.{◌>>=◌, refused_if}
use Rattle.tpm_bytes.specs.Writing.{sized_text}
use Rattle.tpm_mac.specs.declared.algorithm.HashAlg.{HashAlg}
use Rattle.tpm_mac.specs.declared.algorithm.HashAlg.TheVariants.{Sha1, Sha256}
use Rattle.tpm_mac.specs.Digest.{digest_size}
use Rattle.tpm_types_common.specs.declared.symmetric.SymmetricDefinition.{SymmetricDefinition}
use Rattle.tpm_types_common.specs.declared.symmetric.SymmetricDefinition.TheVariants as symmetric
use Rattle.tpm_types_common.specs.Algorithm.{hash_number, hash_or_null_number}
use Rattle.tpm_types_common.specs.Pcr.{with_pcr}
use Rattle.tpm_types_common.specs.PcrSelection.{bank_text}
use Rattle.tpm_types_common.specs.Symmetric.{symmetric_text}
use Rattle.tpm_commands.specs.declared.shape.ParameterKind.{ParameterKind}
use Rattle.tpm_commands.specs.declared.shape.ParameterKind.TheVariants as kind
use Rattle.tpm_text.specs.declared.element.Element.{Element}
use Rattle.tpm_text.specs.declared.element.Element.TheVariants as element
use Rattle.tpm_number.specs.declared.fault.TokenFault.{TokenFault}
use Rattle.tpm_number.specs.declared.fault.TokenFault.TheVariants.{Bad}
use Rattle.tpm_number.specs.Number.{is_word, number_in}
use Rattle.tpm_text.specs.Entry.{handle_in}
use Rattle.tpm_text.specs.Hex.{bytes_in, hex_in}
use Rattle.tpm_text.specs.Pieces.{colon, comma, each_in, pieces_of, plus}

-- the encoding of the number in a token; the number must be at most `most`
abbrev pub number_text : Width → (most : ℕ) → List ℕ → Result (List ℕ) TokenFault
number_text width most token = do
  number ← number_in most token
  Ok (to_be_bytes width number)

abbrev pub hash_in : List ℕ → Result HashAlg TokenFault
hash_in word =
    if is_word (codes "sha1") word then Ok Sha1
    else (if is_word (codes "sha256") word then Ok Sha256 else Err Bad)

-- the encoding of the hash algorithm that a word names, or of TPM_ALG_NULL
unfoldable pub hash_text : List ℕ → Result (List ℕ) TokenFault
hash_text word = do
  algorithm ← if is_word (codes "null") word then Ok None
      else (hash_in word >>= λ hash. Ok (Some hash))
  Ok (to_be_bytes w16 (hash_or_null_number algorithm))

abbrev pub symmetric_in : List ℕ → Result SymmetricDefinition TokenFault
symmetric_in word =
    if is_word (codes "null") word then Ok symmetric.Null
    else (if is_word (codes "aes") word then Ok symmetric.Aes128Cfb
    else (if is_word (codes "xor-sha1") word then Ok (symmetric.Xor Sha1)
    else (if is_word (codes "xor-sha256") word then Ok (symmetric.Xor Sha256)
    else Err Bad)))

-- the encoding of the symmetric definition that a word names; the definition says how a session
-- encrypts parameters
unfoldable pub symmetric_word_text : List ℕ → Result (List ℕ) TokenFault
symmetric_word_text word = do
  definition ← symmetric_in word
  Ok (symmetric_text definition)

-- the encoding of the handle in a token
unfoldable pub handle_text : List ℕ → Result (List ℕ) TokenFault
handle_text token = do
  handle ← handle_in token
  Ok (to_be_bytes w32 handle.number)

-- the encoding of a sized buffer (TPM2B), from a token in hex
unfoldable pub buffer_text : List ℕ → Result (List ℕ) TokenFault
buffer_text token = do
  bytes ← bytes_in token
  Ok (sized_text bytes)

-- the hash algorithm before the first colon of a piece, and all text after the colon
unfoldable pub hash_and_rest_in : List ℕ → Result (HashAlg × List ℕ) TokenFault
hash_and_rest_in piece = do
  place ← ok_or (position (λ byte. byte == colon) piece) Bad
  hash ← hash_in (take place piece)
  Ok (hash, drop (place + 1) piece)

-- the PCR selection for PCR numbers that are separated by commas; each number must be at most 23
unfoldable pub pcrs_in : List ℕ → Result ℕ TokenFault
pcrs_in numbers = do
  pcrs ← each_in (number_in 23) (pieces_of comma numbers)
  Ok (fold with_pcr 0 pcrs)

-- the encoding of the PCR selection for one bank (TPMS_PCR_SELECTION), written as `sha256:0,10`
unfoldable pub bank_word_text : List ℕ → Result (List ℕ) TokenFault
bank_word_text piece = do
  bank ← hash_and_rest_in piece
  select ← pcrs_in bank.1
  Ok (bank_text (record { hash = bank.0; select = select }))

-- the encoding of a hash algorithm and a digest of that algorithm's size, written as `sha1:HEX`
unfoldable pub digest_word_text : List ℕ → Result (List ℕ) TokenFault
digest_word_text piece = do
  parts ← hash_and_rest_in piece
  whole ← refused_if (not (length parts.1 == 2 * digest_size parts.0)) Bad
  digest ← hex_in parts.1
  Ok (to_be_bytes w16 (hash_number parts.0) ++ digest)

abbrev pub element_text : Element → List ℕ → Result (List ℕ) TokenFault
element_text element.Bank piece = bank_word_text piece
element_text element.Digest piece = digest_word_text piece
element_text element.Buffer piece = buffer_text piece
element_text element.Algorithm piece = number_text w16 0xffff piece

-- the encodings of the elements of a list, one after another
unfoldable pub elements_text : Element → List (List ℕ) → Result (List ℕ) TokenFault
elements_text element pieces = do
  texts ← each_in (element_text element) pieces
  Ok (flat_map (λ text. text) texts)

-- the encoding of a list whose elements are separated by `+`: their number, then the elements
unfoldable pub list_text : Element → List ℕ → Result (List ℕ) TokenFault
list_text element token = do
  elements ← elements_text element (pieces_of plus token)
  Ok (to_be_bytes w32 (length (pieces_of plus token)) ++ elements)

-- the encoding of a list; the token `-` is the empty list
unfoldable pub list_or_none_text : Element → List ℕ → Result (List ℕ) TokenFault
list_or_none_text element token =
    if is_word (codes "-") token then Ok (to_be_bytes w32 0) else list_text element token

-- the encoding of a parameter of this kind; a buffer may have any size here, because the device
-- limits the size
unfoldable pub parameter_text : ParameterKind → List ℕ → Result (List ℕ) TokenFault
parameter_text kind.StartupType token = number_text w16 0xffff token
parameter_text kind.SessionType token = number_text w8 0xff token
parameter_text kind.U8 token = number_text w8 0xff token
parameter_text kind.U16 token = number_text w16 0xffff token
parameter_text kind.U32 token = number_text w32 0xffff_ffff token
parameter_text kind.U64 token = number_text w64 0xffff_ffff_ffff_ffff token
parameter_text kind.Hash token = hash_text token
parameter_text kind.HashOrNull token = hash_text token
parameter_text kind.Symmetric token = symmetric_word_text token
parameter_text kind.Selection token = list_or_none_text element.Bank token
parameter_text kind.Digests token = list_or_none_text element.Digest token
parameter_text kind.DigestList token = list_text element.Buffer token
parameter_text (kind.Buffer most) token = buffer_text token
parameter_text kind.SensitiveCreate token = buffer_text token
parameter_text kind.Public token = buffer_text token
parameter_text kind.NvPublic token = buffer_text token
parameter_text kind.Operation token = number_text w16 0xffff token
parameter_text kind.PersistentHandle token = number_text w32 0xffff_ffff token
parameter_text kind.Hierarchy token = handle_text token
parameter_text kind.AlgorithmList token = list_or_none_text element.Algorithm token
parameter_text kind.PublicParameters token = bytes_in token
parameter_text kind.YesNo token = number_text w8 0xff token
