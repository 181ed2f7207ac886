-- A mask that is applied to a parameter twice restores the parameter.
use Rattle.std.proofs.Common.{◌≡◌, ◌≤◌, ℕ, List, [], ◌∷◌, ap, ap₂, arith, bit_xor, length, refl, ◌∙◌}
use Rattle.std.specs.Int.Bits.{xor_assoc, xor_self, xor_zero_r}
use Rattle.tpm_aes.specs.Cipher.{xor_of}
use Rattle.tpm_session.specs.Encryption.{mask_bytes, masked_parameter}
use Rattle.tpm_session.specs.declared.session.Session.{Session}

xor_twice : (x y : ℕ) → bit_xor (bit_xor x y) y ≡ x
xor_twice x y = xor_assoc x y y ∙ ap (bit_xor x) (xor_self y) ∙ xor_zero_r x

length-xored : (xs ys : List ℕ) → length xs ≤ length ys → length (xor_of xs ys) ≡ length xs
length-xored [] ys fits = refl
length-xored (x ∷ xs) [] fits = absurd (omega arith)
length-xored (x ∷ xs) (y ∷ ys) fits = omega (arith, length-xored xs ys (omega arith))

off : (xs ys : List ℕ) → length xs ≤ length ys → xor_of (xor_of xs ys) ys ≡ xs
off [] ys fits = refl
off (x ∷ xs) [] fits = absurd (omega arith)
off (x ∷ xs) (y ∷ ys) fits =
    ap₂ (λ (b : ℕ) (bs : List ℕ). b ∷ bs) (xor_twice x y) (off xs ys (omega arith))

pub unmasked : (session : Session) (auth_value newer older bytes : List ℕ)
    → length (mask_bytes session auth_value newer older (length bytes)) ≡ length bytes
    → masked_parameter session auth_value newer older
    (masked_parameter session auth_value newer older bytes) ≡ bytes
unmasked session auth_value newer older bytes size =
    let mask : List ℕ = mask_bytes session auth_value newer older (length bytes) in
    ap (λ (n : ℕ). xor_of (xor_of bytes mask) (mask_bytes session auth_value newer older n))
    (length-xored bytes mask (omega (arith, size)))
    ∙ off bytes mask (omega (arith, size))
