use Rattle.tpm_text.proofs.line.+put_entries.Given as goal

abbrev pub decreases-put_entries : goal.decreases-put_entries
decreases-put_entries l = l.most
