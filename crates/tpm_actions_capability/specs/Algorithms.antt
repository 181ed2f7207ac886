-- The algorithms that a device of the complete profile lists, in ascending order. TPM 2.0 Library,
-- Part 2, sections 6.3 (TPM_ALG_ID) and 8.2 (TPMA_ALGORITHM).
use Rattle.std.specs.Prelude.{List, [], ◌∷◌}
use Rattle.tpm_actions_capability.specs.Element.{element}
use Rattle.tpm_actions_capability.specs.declared.element.Element.{Element}

-- the algorithms with their attributes. In hexadecimal, symmetric is 2, hash 4, object 8, signing
-- 100, encrypting 200, and method 400
abbrev pub algorithm_elements : List Element
algorithm_elements =
    element 0x04 0x004  -- SHA-1
    ∷ element 0x05 0x104  -- HMAC
    ∷ element 0x06 0x002  -- AES
    ∷ element 0x08 0x30c  -- KEYEDHASH
    ∷ element 0x0a 0x006  -- XOR
    ∷ element 0x0b 0x004  -- SHA-256
    ∷ element 0x22 0x404  -- KDF1_SP800_108
    ∷ element 0x25 0x008  -- SYMCIPHER
    ∷ element 0x43 0x202  -- CFB
    ∷ []
