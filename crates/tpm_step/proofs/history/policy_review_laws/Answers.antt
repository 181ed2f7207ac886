use Rattle.tpm_step.proofs.uses.PolicyReviews.{each_is_written_once, each_needs_count, each_needs_its_policy, each_needs_pcrs, each_needs_pcrs_and_pin, each_needs_pin_or_secret}
use Rattle.tpm_step.proofs.history.policy_review_laws.Goals as goal

pub returns-clause-every : goal.returns-clause-every
returns-clause-every c = each_needs_its_policy

pub returns-clause-pcrs : goal.returns-clause-pcrs
returns-clause-pcrs c = each_needs_pcrs

pub returns-clause-pcrs_and_pin : goal.returns-clause-pcrs_and_pin
returns-clause-pcrs_and_pin c = each_needs_pcrs_and_pin

pub returns-clause-pin_or_secret : goal.returns-clause-pin_or_secret
returns-clause-pin_or_secret c = each_needs_pin_or_secret

pub returns-clause-written_once : goal.returns-clause-written_once
returns-clause-written_once c = each_is_written_once

pub returns-clause-count : goal.returns-clause-count
returns-clause-count c = each_needs_count
