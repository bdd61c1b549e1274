use Rattle.zoe_calls.proofs.zoe.serve_zoe.Goals as goal

pub returns-in-getInvitationIssuer : goal.returns-in-getInvitationIssuer
returns-in-getInvitationIssuer c = rw c.in-getInvitationIssuer.is (c.outcome_of_reading.ensures _ c.get_invitation_issuer.ensures)

pub returns-in-getInvitationDetails : goal.returns-in-getInvitationDetails
returns-in-getInvitationDetails c = rw c.in-getInvitationDetails.is (c.outcome_of_reading-in-getInvitationDetails.ensures _ c.get_invitation_details.ensures)

pub returns-in-getPublicFacet : goal.returns-in-getPublicFacet
returns-in-getPublicFacet c = rw c.in-getPublicFacet.is (c.outcome_of_reading-in-getPublicFacet.ensures _ c.get_public_facet.ensures)

pub returns-in-getTerms : goal.returns-in-getTerms
returns-in-getTerms c = rw c.in-getTerms.is (c.outcome_of_reading-in-getTerms.ensures _ c.get_terms.ensures)

pub returns-in-getIssuers : goal.returns-in-getIssuers
returns-in-getIssuers c = rw c.in-getIssuers.is (c.outcome_of_reading-in-getIssuers.ensures _ c.get_issuers.ensures)
