-- The pieces of a token that encodes the entry of a session, as the code finds them.
use Rattle.tpm_text.specs.declared.entry.SessionPieces as declared
use Rattle.tpm_text.specs.Entry.{SessionPieces}

abbrev pub four_of : declared.SessionPieces → SessionPieces
four_of pieces = record {
  session = pieces.session.now;
  nonce = pieces.nonce.now;
  attributes = pieces.attributes.now;
  hmac = pieces.hmac.now;
}
