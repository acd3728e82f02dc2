-- A session that replies in JSON objects. In contracts, its value is a session and the states that
-- its objects show.
use Rattle.hp_live.specs.Talks.{ObjectsValue}
use Rattle.hp_live.specs.declared.object_talk.ObjectTalk.{ObjectTalk}

abbrev pub objects : ObjectTalk → ObjectsValue
objects t = record { session = t.session; states = t.states }
