use Rattle.law_theorems.proofs.Scripts.{are_sessions, are_whole_sessions, ask_bytes, end_as_sessions}
use Rattle.law_theorems.proofs.script_laws.scripts_are_sessions.Goals as goal

pub returns-clause-sessions : goal.returns-clause-sessions
returns-clause-sessions c = are_sessions

pub returns-clause-bytes : goal.returns-clause-bytes
returns-clause-bytes c = ask_bytes

pub returns-clause-ends : goal.returns-clause-ends
returns-clause-ends c = end_as_sessions

pub returns-clause-whole : goal.returns-clause-whole
returns-clause-whole c = are_whole_sessions
