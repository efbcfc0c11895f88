-- To be believed. How many words a task's memories have.
use Rattle.local_store.specs.declared.store.TheConstants.{PRIVATE_WORDS}
use Rattle.c_world.specs.Shown.{Rooms, fresh_rooms}

abbrev pub all_rooms : Rooms
all_rooms = fresh_rooms PRIVATE_WORDS
