use Rattle.format.proofs.+natural.Given as goal

-- proposed from what the function passes where it calls itself
abbrev pub decreases-natural : goal.decreases-natural
decreases-natural l = l.n
