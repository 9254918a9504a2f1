use Rattle.std.proofs.Common.{rules, inl, refl, sym, subst}
use Rattle.sqlite.specs.Effect.{Database}
use Rattle.sqlite.specs.Held.{state}
use Rattle.tables.specs.Databases.{IsFormatOne, IsUpgraded, WasUpgraded}
use Rattle.tables.specs.Stands.{StandsFor}
use Rattle.tables.proofs.Crashes.{migrates, implied, weaker}
use Rattle.tables.proofs.Upgrades.{rests_one, rests_upgraded, stands_upgraded}
use Rattle.tables.proofs.Empty.{rests_format, unchanged_rests}
use Rattle.tables.proofs.Found.{resting, resting_one}
use Rattle.tables.proofs.migration.migrate.Goals as goal

pub returns-in-Ok-upgrade-clause-crash : goal.returns-in-Ok-upgrade-clause-crash
returns-in-Ok-upgrade-clause-crash g c is = rw c.over.ensures (
  (λ clean.
      let found = c.find_format.ensures.old (c.upgrade.ensures.ended.clean clean) is in
      migrates (state g.S.Store c.args.conn) (state g.S.Store c.find_format.new.conn) (state g.S.Store c.upgrade.new.conn) is (search (found, rules)) (c.find_format.ensures.crash (inl is)) c.upgrade.ensures.crash),
  tt,
)

pub returns-in-Ok-upgrade-clause-stands : goal.returns-in-Ok-upgrade-clause-stands
returns-in-Ok-upgrade-clause-stands g c m it = rw c.over.ensures (
  (λ clean.
      let is = resting_one _ m it in
      let one = rests_one _ m is in
      let same = (c.in-Ok-One.ensures.old (c.upgrade.ensures.ended.clean clean) one).1.0.now_is in
      let made = c.in-Ok-upgrade.ensures.made (subst IsFormatOne (sym same) one) clean in
      (refl, rests_upgraded (state g.S.Store c.args.conn) (state g.S.Store c.upgrade.new.conn) m is (subst (λ (d : Database). IsUpgraded d (state g.S.Store c.upgrade.new.conn).now) same made.0) made.1)),
  tt,
)

pub returns-in-Ok-upgrade-clause-left : goal.returns-in-Ok-upgrade-clause-left
returns-in-Ok-upgrade-clause-left g c m is = rw c.over.ensures (
  (λ clean.
      let one = rests_one _ m is in
      let found = c.find_format.ensures.old (c.upgrade.ensures.ended.clean clean) one in
      implied _ _ (WasUpgraded (state g.S.Store c.args.conn).now.trees) (λ db. StandsFor db m) (stands_upgraded (state g.S.Store c.args.conn).now.trees m is.stands)
      (migrates (state g.S.Store c.args.conn) (state g.S.Store c.find_format.new.conn) (state g.S.Store c.upgrade.new.conn) one (search (found, rules)) (c.find_format.ensures.crash (inl one)) c.upgrade.ensures.crash)),
  tt,
)

pub returns-in-Err-upgrade-clause-left : goal.returns-in-Err-upgrade-clause-left
returns-in-Err-upgrade-clause-left g c m is = (
  tt,
  (λ clean.
      let one = rests_one _ m is in
      let found = c.find_format.ensures.old (c.upgrade.ensures.ended.clean clean) one in
      implied _ _ (WasUpgraded (state g.S.Store c.args.conn).now.trees) (λ db. StandsFor db m) (stands_upgraded (state g.S.Store c.args.conn).now.trees m is.stands)
      (migrates (state g.S.Store c.args.conn) (state g.S.Store c.find_format.new.conn) (state g.S.Store c.upgrade.new.conn) one (search (found, rules)) (c.find_format.ensures.crash (inl one)) c.upgrade.ensures.crash)),
)

pub returns-in-Ok-Two-clause-stands : goal.returns-in-Ok-Two-clause-stands
returns-in-Ok-Two-clause-stands g c m it = rw c.over-in-Ok-Two.ensures (
  (λ clean.
      let found = c.find_format.ensures.old clean (rests_one _ m (resting_one _ m it)) in
      absurd (search (found, rules))),
  tt,
)

pub returns-in-Ok-Two-clause-left : goal.returns-in-Ok-Two-clause-left
returns-in-Ok-Two-clause-left g c m is = rw c.over-in-Ok-Two.ensures (
  (λ clean.
      let found = c.find_format.ensures.old clean (rests_one _ m is) in
      absurd (search (found, rules))),
  tt,
)

pub returns-in-Ok-clause-left : goal.returns-in-Ok-clause-left
returns-in-Ok-clause-left g c m is = (tt, (λ clean. weaker _ _ (λ db. StandsFor db m) (c.find_format.ensures.crash (inl (rests_one _ m is)))))

pub returns-in-Err-clause-left : goal.returns-in-Err-clause-left
returns-in-Err-clause-left g c m is = (tt, (λ clean. weaker _ _ (λ db. StandsFor db m) (c.find_format.ensures.crash (inl (rests_one _ m is)))))

pub returns-in-Ok-clause-stands : goal.returns-in-Ok-clause-stands
returns-in-Ok-clause-stands g c m it = (
  tt,
  (λ clean.
      let found = c.find_format.ensures.old clean (rests_one _ m (resting_one _ m it)) in
      absurd (search (found, rules))),
)

pub returns-in-Ok-upgrade-clause-known_stands : goal.returns-in-Ok-upgrade-clause-known_stands
returns-in-Ok-upgrade-clause-known_stands g c m it = rw c.over.ensures (
  (λ clean.
      let found = c.find_format.ensures.known (c.upgrade.ensures.ended.clean clean) (rests_format _ m (resting _ m it)) in
      absurd (search (found, rules))),
  tt,
)

pub returns-in-Ok-Two-clause-known_stands : goal.returns-in-Ok-Two-clause-known_stands
returns-in-Ok-Two-clause-known_stands g c m it = rw c.over-in-Ok-Two.ensures (
    let is = resting _ m it in
    ((λ clean. (refl, unchanged_rests _ _ m (c.in-Ok-Two.ensures.known clean (rests_format _ m is)).1 is)), tt))

pub returns-in-Ok-clause-known_stands : goal.returns-in-Ok-clause-known_stands
returns-in-Ok-clause-known_stands g c m it = (
  tt,
  (λ clean.
      let found = c.find_format.ensures.known clean (rests_format _ m (resting _ m it)) in
      absurd (search (found, rules))),
)
