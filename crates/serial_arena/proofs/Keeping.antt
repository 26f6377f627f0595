-- An arena that keeps one byte string more, as a memory.
use Rattle.std.proofs.Common.{◌≡◌, ℕ, ◌+◌, List, None, Some, sym, ap, ◌∙◌}
use Rattle.std.specs.FinMap as fin
use Rattle.arena_mem.specs.declared.place.Buffer.{Buffer}
use Rattle.arena_mem.specs.Places.{KeepsBuffers}
use Rattle.arena_mem.specs.Grows.{Grows}
use Rattle.arena_mem.proofs.Maps.{len-kept}
use Rattle.arena_mem.proofs.Growth.{kept_grows}
use Rattle.serial_arena.specs.Key.{key_of}
use Rattle.serial_arena.specs.Serial.{SerialState, places_of, buffers_of, blocks_of, with_kept}
use Rattle.serial_arena.proofs.Names.{next_buffer, next_buffer_is_new, with_kept_inserts, new_buffer_is, with_kept_keeps}

module _ (s new : SerialState) (bytes : List ℕ) (b : Buffer) (named : b ≡ next_buffer s) where
  pub is_fresh : fin.get (buffers_of s) b ≡ None
  is_fresh = ap (fin.get (buffers_of s)) named ∙ next_buffer_is_new s

  module _ (is : new ≡ with_kept s bytes) where
    pub value_is : fin.get (buffers_of new) b ≡ Some bytes
    value_is = ap (λ (s : SerialState). fin.get (buffers_of s) b) is ∙ ap (fin.get (buffers_of (with_kept s bytes))) named ∙ new_buffer_is s bytes

    pub map_is : buffers_of new ≡ fin.insert (buffers_of s) b bytes
    map_is = ap buffers_of is ∙ with_kept_inserts s bytes ∙ sym (ap (λ b. fin.insert (buffers_of s) b bytes) named)

    pub rest_stays : KeepsBuffers (buffers_of s) (buffers_of new)
    rest_stays b was here = ap (λ (s : SerialState). fin.get (buffers_of s) b) is ∙ with_kept_keeps s bytes b was here

    pub count_is : fin.len (buffers_of new) ≡ fin.len (buffers_of s) + 1
    count_is = ap fin.len map_is ∙ len-kept (buffers_of s) b bytes is_fresh

    pub it_grows : Grows key_of places_of buffers_of blocks_of 0 1 s new
    it_grows = kept_grows key_of places_of buffers_of blocks_of s new (ap key_of is) rest_stays count_is (ap places_of is) (λ region. ap (λ (s : SerialState). blocks_of s region) is)
