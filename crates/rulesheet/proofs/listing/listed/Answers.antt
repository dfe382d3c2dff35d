use Rattle.rulesheet.proofs.listing.listed.Goals as goal

pub returns : goal.returns
returns g c = rw (c.in_ok-session.ensures, c.deref_mut.ensures.value, c.in_ok-grades.ensures) at c.load_printed.ensures
