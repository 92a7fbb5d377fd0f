use Rattle.cachefile.proofs.text.+put_near.Given as goal

abbrev pub decreases-put_near : goal.decreases-put_near
decreases-put_near l = l.room
