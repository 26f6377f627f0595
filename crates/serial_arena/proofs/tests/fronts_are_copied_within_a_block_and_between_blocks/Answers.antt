use Rattle.arena_mem.proofs.Maps.{lives}
use Rattle.serial_arena.proofs.tests.fronts_are_copied_within_a_block_and_between_blocks.Goals as goal

pub write-requires-clause-live : goal.write-requires-clause-live
write-requires-clause-live g c = c.place-3.ensures.still_live _ (c.place-2.ensures.still_live _ (lives _ _ _ c.in_ok-first.ensures.zeros))

pub copy_front-requires-clause-from_live : goal.copy_front-requires-clause-from_live
copy_front-requires-clause-from_live g c = c.write.ensures.still_live _ (c.place-3.ensures.still_live _ (c.place-2.ensures.still_live _ (lives _ _ _ c.in_ok-first.ensures.zeros)))

pub copy_front-requires-2-clause-to_live : goal.copy_front-requires-2-clause-to_live
copy_front-requires-2-clause-to_live g c = c.copy_front.ensures.still_live _ (c.write.ensures.still_live _ (c.place-3.ensures.still_live _ (lives _ _ _ c.in_ok-second.ensures.zeros)))

pub read-requires-2 : goal.read-requires-2
read-requires-2 g c = c.copy_front-2.ensures.still_live _ (c.copy_front.ensures.still_live _ (c.write.ensures.still_live _ (c.place-3.ensures.still_live _ (lives _ _ _ c.in_ok-second.ensures.zeros))))

pub copy_front-requires-3-clause-to_live : goal.copy_front-requires-3-clause-to_live
copy_front-requires-3-clause-to_live g c =
    c.write-2.ensures.still_live _ (c.copy_front-2.ensures.still_live _ (c.copy_front.ensures.still_live _ (c.write.ensures.still_live _ (c.place-3.ensures.still_live _ (c.place-2.ensures.still_live _ (lives _ _ _ c.in_ok-first.ensures.zeros))))))

pub read-requires-3 : goal.read-requires-3
read-requires-3 g c =
    c.copy_front-3.ensures.still_live _ (c.write-2.ensures.still_live _ (c.copy_front-2.ensures.still_live _ (c.copy_front.ensures.still_live _ (c.write.ensures.still_live _ (c.place-3.ensures.still_live _ (c.place-2.ensures.still_live _
    (lives _ _ _ c.in_ok-first.ensures.zeros)))))))

pub copy_front-requires-4-clause-from_live : goal.copy_front-requires-4-clause-from_live
copy_front-requires-4-clause-from_live g c =
    c.copy_front-3.ensures.still_live _ (c.write-2.ensures.still_live _ (c.copy_front-2.ensures.still_live _ (c.copy_front.ensures.still_live _ (c.write.ensures.still_live _ (c.place-3.ensures.still_live _ (lives _ _ _ c.in_ok-second.ensures.zeros))))))

pub copy_front-requires-4-clause-to_live : goal.copy_front-requires-4-clause-to_live
copy_front-requires-4-clause-to_live g c =
    c.copy_front-3.ensures.still_live _ (c.write-2.ensures.still_live _ (c.copy_front-2.ensures.still_live _ (c.copy_front.ensures.still_live _ (c.write.ensures.still_live _ (c.place-3.ensures.still_live _ (lives _ _ _ c.in_ok-second.ensures.zeros))))))

pub read-requires-4 : goal.read-requires-4
read-requires-4 g c =
    c.copy_front-4.ensures.still_live _ (c.copy_front-3.ensures.still_live _ (c.write-2.ensures.still_live _ (c.copy_front-2.ensures.still_live _ (c.copy_front.ensures.still_live _ (c.write.ensures.still_live _ (c.place-3.ensures.still_live _
    (lives _ _ _ c.in_ok-second.ensures.zeros)))))))
