use Rattle.tpm_text.proofs.line.+put_handles.Given as goal

abbrev pub decreases-put_handles : goal.decreases-put_handles
decreases-put_handles l = l.count
