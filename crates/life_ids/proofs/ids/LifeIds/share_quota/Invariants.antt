use Rattle.life_ids.proofs.ids.LifeIds.share_quota.Given as goal

abbrev pub ghosts-cut_off : goal.ghosts-cut_off
ghosts-cut_off a = record { batches = a.batches }
