-- What a line says, from what its parts say.
use Rattle.std.proofs.Common.{◌≡◌, ◌≢◌, ℕ, List, [], ◌++◌, Option, Some, None, IfSome, inl, inr, codes}
use Rattle.std.specs.Prelude.{MatchOption}
use Rattle.jcard_test.specs.Lines.{HasText, IsDirective, IsLoopLine, IsNoDirective, IsNumberedLoop, IsRowLine, IsSpacedAt, Says}
use Rattle.jcard_test.specs.declared.line.Line.{Line}
use Rattle.jcard_test.specs.declared.line.Line.TheVariants.{Nothing, New, Include, For, End, Row}

pub says_directive : (line text : List ℕ) (said : Line) → HasText line text → IsDirective text said → Says line said
says_directive line text Nothing has directive = absurd directive
says_directive line text (Row command answer) has directive = absurd directive
says_directive line text New has directive = (text, has, directive)
says_directive line text End has directive = (text, has, directive)
says_directive line text (Include name) has directive = (text, has, directive)
says_directive line text (For name first last) has directive = (text, has, directive)

pub says_row : (line text : List ℕ) (said : Line) → HasText line text → text ≢ [] → IsNoDirective text → IsRowLine text said → Says line said
says_row line text Nothing has some none row = absurd row
says_row line text (Row command answer) has some none row = (text, has, some, none, row)
says_row line text New has some none row = absurd row
says_row line text End has some none row = absurd row
says_row line text (Include name) has some none row = absurd row
says_row line text (For name first last) has some none row = absurd row

-- a loop with a name, and one without
pub loop_named : (words word more one other : List ℕ) (r : Option Line) → IsSpacedAt words word (Some more) → IsSpacedAt more one (Some other)
    → IfSome r (λ line. IsNumberedLoop word one other line) → IfSome r (λ line. IsLoopLine words line)
loop_named words word more one other None first second numbers = tt
loop_named words word more one other (Some line) first second numbers = (word, more, first, inl (one, other, second, numbers))

pub loop_unnamed : (words word more : List ℕ) (r : Option Line) → IsSpacedAt words word (Some more) → IsSpacedAt more more None
    → IfSome r (λ line. IsNumberedLoop (codes "n") word more line) → IfSome r (λ line. IsLoopLine words line)
loop_unnamed words word more None first second numbers = tt
loop_unnamed words word more (Some line) first second numbers = (word, more, first, inr (second, numbers))

-- a loop is a directive
directive_loop : (text words : List ℕ) (said : Line) → text ≡ codes "for " ++ words → IsLoopLine words said → IsDirective text said
directive_loop text words (For name first last) e h = (words, e, h)
directive_loop text words Nothing e h = elim h.3 [ inl named ↦ absurd named.3 | inr unnamed ↦ absurd unnamed.1 ]
directive_loop text words (Row command answer) e h = elim h.3 [ inl named ↦ absurd named.3 | inr unnamed ↦ absurd unnamed.1 ]
directive_loop text words New e h = elim h.3 [ inl named ↦ absurd named.3 | inr unnamed ↦ absurd unnamed.1 ]
directive_loop text words End e h = elim h.3 [ inl named ↦ absurd named.3 | inr unnamed ↦ absurd unnamed.1 ]
directive_loop text words (Include name) e h = elim h.3 [ inl named ↦ absurd named.3 | inr unnamed ↦ absurd unnamed.1 ]

pub directive_of : (r : Option Line) (text words : List ℕ) → IsNoDirective text → text ≡ codes "for " ++ words → IfSome r (λ line. IsLoopLine words line)
    → MatchOption r (IsNoDirective text) (λ line. IsDirective text line)
directive_of None text words none e h = none
directive_of (Some said) text words none e h = directive_loop text words said e h
