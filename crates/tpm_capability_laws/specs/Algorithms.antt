-- The algorithms of a device. TPM 2.0 Library, Part 2, section 6.3 (TPM_ALG_ID), and Part 3, sections
-- 10.3 (TPM2_IncrementalSelfTest) and 30.2 (TPM2_GetCapability).
use Rattle.std.specs.Prelude.{◌≡◌, map}
use Rattle.tpm_actions_capability.specs.Algorithms.{algorithm_elements}
use Rattle.tpm_actions_capability.specs.declared.element.Element.{Element}
use Rattle.tpm_actions_device.specs.IncrementalSelfTest.{implemented_algorithms}

-- The algorithms that TPM2_GetCapability lists are those that TPM2_IncrementalSelfTest tests.
abbrev pub AlgorithmsAgree : Type 0
AlgorithmsAgree = map (λ (e : Element). e.number) algorithm_elements ≡ implemented_algorithms
