use Rattle.std.proofs.Common.{◌≡◌, ℕ, ◌+◌, ◌-◌, ◌*◌, ◌<◌, ◌∙◌, List, add-one, ap, arith, drop, length, min, refl, sym, take}
use Rattle.tpm_aes.proofs.TextBlocks.{block_left, done_to_all, done_to_more, done_to_none, length-block_at, pieces_to}
use Rattle.tpm_aes.proofs.Undone.{cfb_redone}
use Rattle.tpm_aes.proofs.cipher.Aes128.cfb_decrypt.Goals as goal
use Rattle.tpm_aes.specs.Cfb.{block_at, block_before, cfb_decrypt_of, cfb_encrypt_of, plain_block}
use Rattle.tpm_aes.specs.Cipher.{aes_of, xor_of}

pub loop-index-init : goal.loop-index-init
loop-index-init c = (done_to_none _ c.args.text.now, λ _. refl)

pub loop-index-preserved : goal.loop-index-preserved
loop-index-preserved c =
    let key = c.args.self.now in
    let iv = c.args.iv.now in
    let text = c.args.text.now in
    let now = c.loop-index.text in
    let i : ℕ = c.loop-index.index in
    let end : ℕ = 16 * i + c.min-size.result in
    let piece : ℕ → List ℕ = plain_block key iv text in
    let inside : 16 * i < length text = omega arith in
    let stop : end ≡ 16 * i + min 16 (length text - 16 * i) = omega arith in
    let left : take (end - 16 * i) (drop (16 * i) now) ≡ block_at text i =
    block_left piece text now i (16 * i) end c.loop-index.invariant.0 refl (omega arith) stop in
    let part : c.decrypt_block.new.text ≡ piece i =
    c.decrypt_block.ensures.value
    ∙ ap (λ (b : List ℕ). xor_of b (aes_of key c.loop-index.feedback)) left
    ∙ ap (λ (b : List ℕ). xor_of (block_at text i) (aes_of key b))
    (c.loop-index.invariant.1 (omega arith)) in
    let size : length c.decrypt_block.new.text ≡ end - 16 * i =
    omega (arith, c.decrypt_block.auto.text, ap length left, length-block_at text i) in (
      done_to_more piece text now _ c.decrypt_block.new.text i (16 * i) end c.loop-index.invariant.0
          refl (omega arith) stop part size refl,
      λ whole. c.decrypt_block.ensures.fed_back
          (ap length left ∙ omega (arith, length-block_at text i))
          ∙ left ∙ ap (block_before iv text) (sym (add-one i)),
    )

pub returns-clause-undone : goal.returns-clause-undone
unfolding pieces_to
returns-clause-undone c =
    let key = c.args.self.now in
    let iv = c.args.iv.now in
    let text = c.args.text.now in
    let value : c.loop-index.text ≡ cfb_decrypt_of key iv text =
    done_to_all (plain_block key iv text) text c.loop-index.text c.loop-index.index
    c.loop-index.invariant.0 (omega arith) in
    ap (cfb_encrypt_of key iv) value ∙ cfb_redone key iv text

pub returns-clause-value : goal.returns-clause-value
unfolding pieces_to
returns-clause-value c =
    done_to_all (plain_block c.args.self.now c.args.iv.now c.args.text.now) c.args.text.now
    c.loop-index.text c.loop-index.index c.loop-index.invariant.0 (omega arith)
