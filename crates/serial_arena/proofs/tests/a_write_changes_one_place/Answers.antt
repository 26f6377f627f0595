use Rattle.arena_mem.proofs.Maps.{lives}
use Rattle.serial_arena.proofs.tests.a_write_changes_one_place.Goals as goal

pub write-requires-clause-live : goal.write-requires-clause-live
write-requires-clause-live g c = lives _ _ _ (c.place-3.ensures.rest _ _ (c.place-2.ensures.rest _ _ c.in_ok-first.ensures.zeros))

pub write-requires-3-clause-live : goal.write-requires-3-clause-live
write-requires-3-clause-live g c = c.write-2.ensures.still_live _ (c.write.ensures.still_live _ (lives _ _ _ (c.place-3.ensures.rest _ _ c.in_ok-second.ensures.zeros)))

pub read-requires : goal.read-requires
read-requires g c = c.write-3.ensures.still_live _ (c.write-2.ensures.still_live _ (c.write.ensures.still_live _ (lives _ _ _ (c.place-3.ensures.rest _ _ (c.place-2.ensures.rest _ _ c.in_ok-first.ensures.zeros)))))

pub read-requires-2 : goal.read-requires-2
read-requires-2 g c = c.write-3.ensures.still_live _ (c.write-2.ensures.still_live _ (c.write.ensures.still_live _ (lives _ _ _ (c.place-3.ensures.rest _ _ c.in_ok-second.ensures.zeros))))

pub read-requires-3 : goal.read-requires-3
read-requires-3 g c = c.write-3.ensures.still_live _ (c.write-2.ensures.still_live _ (c.write.ensures.still_live _ (lives _ _ _ c.in_ok-third.ensures.zeros)))
